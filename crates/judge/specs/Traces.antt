-- The trace of a tableau: the steps that are taken, and what each does.
-- Does: the effect of a step, by the rules of the calculus. pending_after: how many splits are pending
-- afterwards. Trace: the trace of steps. SawTrace: a watcher was told it. steps_taken: how many steps are
-- taken. Watched: what is promised of a watcher.
-- Assumes nothing.
use Rattle.std.specs.Prelude.{ℕ, suc, ◌-◌, List, [], ◌∷◌, ◌++◌, length, take, Ok, Err, Result}
use Rattle.std.specs.List.{FoldsTo}
use Rattle.logic.specs.declared.tableau.Step.{Step}
use Rattle.logic.specs.Books.{Book}
use Rattle.logic.specs.Branches.{Branch, constraint, edge, with, with_new}
use Rattle.logic.specs.Limits.{Lengths}
use Rattle.logic.specs.Rules as rule
use Rattle.judge.specs.declared.effect.Effect.{Effect}
use Rattle.judge.specs.declared.effect.Effect.TheVariants.{Adds, AddsTwo, Links, Grows, GrowsTwo, Splits, Closes}
use Rattle.judge.specs.declared.faults.RefuteFault.{RefuteFault}
use Rattle.judge.specs.declared.faults.RefuteFault.TheVariants.{BadLength, AtStep, AfterClosing, NotClosed}
use Rattle.judge.specs.declared.used.Used.{Used}
use Rattle.judge.specs.declared.watch.TakenStep.{TakenStep}
use Rattle.judge.specs.Progress.{Underway}

-- By a rule of the calculus, the step does to the branch what the effect says; br.next is the new label.
abbrev pub Does : Book → Branch → Step → Effect → Type 0
Does bk br s (Adds c) = rule.Extends bk br s (with br (c ∷ []) [])
Does bk br s (AddsTwo c d) = rule.Extends bk br s (with br (c ∷ d ∷ []) [])
Does bk br s (Links e) = rule.Extends bk br s (with br [] (e ∷ []))
Does bk br s (Grows x r f n) =
    rule.Extends bk br s (with_new br (constraint br.next f n ∷ []) (edge x r br.next ∷ []))
Does bk br s (GrowsTwo x r f g n) =
    rule.Extends bk br s
    (with_new br (constraint br.next f n ∷ constraint br.next g n ∷ []) (edge x r br.next ∷ []))
Does bk br s (Splits c d) = rule.Splits bk br s (with br (c ∷ []) []) (with br (d ∷ []) [])
Does bk br s Closes = rule.Closes bk br s

-- A split adds one. Closing a branch removes the latest, if there is one: its second branch comes next.
abbrev pub pending_after : Effect → ℕ → ℕ
pending_after (Splits c d) n = suc n
pending_after Closes n = n - 1
pending_after _ n = n

-- The steps are taken one after the other. For each the trace has its effect on the current branch, and the
-- number of splits that are pending after it.
pub data Trace (bk : Book) (ls : Lengths) : List Step → List TakenStep → Type 0 where
  none : Trace bk ls [] []
  one_more : {ss : List Step} {ts : List TakenStep} {br : Branch} {ps : List Branch} (s : Step) (e : Effect) →
      Trace bk ls ss ts → Underway bk ls ss br ps → Does bk br s e →
      Trace bk ls (ss ++ s ∷ [])
      (ts ++ record { step = s; effect = e; pending = pending_after e (length ps) } ∷ [])

-- all steps are taken, or those before the refused one, or none if the length of the bytes is refused
abbrev pub steps_taken : List Step → Result Used RefuteFault → ℕ
steps_taken ss (Ok u) = length ss
steps_taken ss (Err (BadLength n)) = 0
steps_taken ss (Err (AtStep i f)) = i
steps_taken ss (Err (AfterClosing i)) = i
steps_taken ss (Err (NotClosed n)) = length ss

-- A watcher was told the trace of the steps, in order, and nothing else. `transition` says what it
-- becomes when it is told of one step.
abbrev pub SawTrace : {W : Type 0} → (W → TakenStep → W → Type 0) →
    Book → Lengths → List Step → W → W → Type 0
SawTrace transition bk ls ss before after =
    (trace : List TakenStep) × Trace bk ls ss trace × FoldsTo transition before trace after

-- it was told the trace of the steps that are taken
abbrev pub Watched : {W : Type 0} → (W → TakenStep → W → Type 0) →
    Book → Lengths → List Step → W → W → Result Used RefuteFault → Type 0
Watched transition bk ls ss before after r = SawTrace transition bk ls (take (steps_taken ss r) ss) before after
