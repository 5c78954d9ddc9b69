-- Where the work stands after a step that was taken, and why a step is refused. Assumes nothing.
use Rattle.std.proofs.Common.{◌≡◌, List, [], ◌∷◌, ◌++◌, map, length, Some, None, Ok, Err, Option, sym, subst, ⊎_elim}
use Rattle.std.proofs.lemmas.List.{length-map}
use Rattle.logic.specs.declared.tableau.Constraint.{Constraint}
use Rattle.logic.specs.declared.tableau.Edge.{Edge}
use Rattle.logic.specs.declared.tableau.Step.{Step}
use Rattle.logic.specs.Books.{Book}
use Rattle.logic.specs.Branches.{Branch, constraint, edge, with, with_new}
use Rattle.logic.specs.Limits.{Lengths}
use Rattle.logic.specs.Rules.{Extends}
use Rattle.judge.specs.declared.effect.Effect.{Effect}
use Rattle.judge.specs.declared.effect.Effect.TheVariants.{Adds, AddsTwo, Links, Grows, GrowsTwo, Splits, Closes}
use Rattle.judge.specs.declared.step_fault.StepFault.{StepFault}
use Rattle.judge.specs.declared.step_fault.StepFault.TheVariants.{Full}
use Rattle.judge.specs.declared.working.Counts.{Counts}
use Rattle.judge.specs.declared.working.Split.{Split}
use Rattle.judge.specs.StepEffects.{step_effect}
use Rattle.judge.specs.Progress.{Room, Underway, extended, divided, resumed, Finished, ended}
use Rattle.judge.specs.Reasons.{NoRoom, branch_full, split_full, StepReason}
use Rattle.judge.specs.Blanks.{lengths}
use Rattle.judge.specs.WorkingLists.{PendingSplit, second_branch, Represents, WorkState, work_state, state_after, ReachesState}
use Rattle.judge.specs.Taking.{TakeAnswer}
use Rattle.judge.proofs.Agreeing.{does}
use Rattle.judge.proofs.Showing.{second_room}
use Rattle.judge.proofs.Sorting.{because}

-- the lists show an open branch, or the last branch is closed
abbrev pub Stands : Book → Lengths → List Step → (Counts → WorkState → Type 0) → Option Counts → Type 0
Stands bk ls ss InLists (Some at) = (br : Branch) × (ps : List PendingSplit) × Underway bk ls ss br (map second_branch ps) × InLists at (work_state br ps)
Stands bk ls ss InLists None = Finished bk ls ss

module _ (bk : Book) (ls : Lengths) (ss : List Step) (s : Step) (br : Branch) (InLists : Counts → WorkState → Type 0) (roomy : (at : Counts) (σ : WorkState) → InLists at σ → Room ls (length σ.pending) σ.branch) where
  -- as many splits are pending
  pending_room : (b : Branch) (ps : List PendingSplit) → Room ls (length ps) b → Room ls (length (map second_branch ps)) b
  pending_room b ps r = subst (λ n. Room ls n b) (sym (length-map ps second_branch)) r

  extends : (b : Branch) (ps : List PendingSplit) (n : Option Counts) → Underway bk ls ss br (map second_branch ps) → Extends bk br s b → ReachesState ls InLists (Some (work_state b ps)) (Ok n) → Stands bk ls (ss ++ s ∷ []) InLists n
  extends b ps None u r m = absurd m
  extends b ps (Some at) u r m = (b, ps, extended u r (pending_room b ps (roomy at (work_state b ps) m)), m)

  closes : (ps : List PendingSplit) (n : Option Counts) → Underway bk ls ss br (map second_branch ps) → step_effect bk br s ≡ Ok Closes → ReachesState ls InLists (state_after Closes br ps) (Ok n) → Stands bk ls (ss ++ s ∷ []) InLists n
  closes [] None u h m = ended u (does bk br s Closes h)
  closes [] (Some at) u h m = absurd m
  closes (p ∷ ps) None u h m = absurd m
  closes (p ∷ ps) (Some at) u h m = (second_branch p, ps, resumed u (does bk br s Closes h), m)

  splits : (c d : Constraint) (ps : List PendingSplit) (n : Option Counts) → Underway bk ls ss br (map second_branch ps) → step_effect bk br s ≡ Ok (Splits c d) → ReachesState ls InLists (state_after (Splits c d) br ps) (Ok n) → Stands bk ls (ss ++ s ∷ []) InLists n
  splits c d ps None u h m = absurd m
  splits c d ps (Some at) u h m =
      let qs : List PendingSplit = record { before = br; second = d } ∷ ps in
      (with br (c ∷ []) [], qs, divided u (does bk br s (Splits c d) h) (pending_room (with br (c ∷ []) []) qs (roomy at (work_state (with br (c ∷ []) []) qs) m)), m)

  -- after a step that was taken
  pub stepped : (e : Effect) (ps : List PendingSplit) (n : Option Counts) → Underway bk ls ss br (map second_branch ps) → step_effect bk br s ≡ Ok e → ReachesState ls InLists (state_after e br ps) (Ok n) → Stands bk ls (ss ++ s ∷ []) InLists n
  stepped (Adds c) ps n u h m = extends (with br (c ∷ []) []) ps n u (does bk br s (Adds c) h) m
  stepped (AddsTwo c d) ps n u h m = extends (with br (c ∷ d ∷ []) []) ps n u (does bk br s (AddsTwo c d) h) m
  stepped (Links e) ps n u h m = extends (with br [] (e ∷ [])) ps n u (does bk br s (Links e) h) m
  stepped (Grows x r f k) ps n u h m = extends (with_new br (constraint br.next f k ∷ []) (edge x r br.next ∷ [])) ps n u (does bk br s (Grows x r f k) h) m
  stepped (GrowsTwo x r f g k) ps n u h m = extends (with_new br (constraint br.next f k ∷ constraint br.next g k ∷ []) (edge x r br.next ∷ [])) ps n u (does bk br s (GrowsTwo x r f g k) h) m
  stepped (Splits c d) ps n u h m = splits c d ps n u h m
  stepped Closes ps n u h m = closes ps n u h m

module _ (bk : Book) (s : Step) (br : Branch) (at : Counts) (cs : List Constraint) (es : List Edge) (sp : List Split) where
  abbrev ls : Lengths
  ls = lengths cs es sp

  -- there is no room for what an effect makes
  crowded : (e : Effect) (ps : List PendingSplit) (f : StepFault) (InLists : Counts → WorkState → Type 0) → Represents br ps at cs es sp → step_effect bk br s ≡ Ok e → ReachesState ls InLists (state_after e br ps) (Err f) → (f ≡ Full) × NoRoom bk ls br (length ps) s
  crowded (Adds c) ps f InLists w h m = (m.0, branch_full (does bk br s (Adds c) h) m.1)
  crowded (AddsTwo c d) ps f InLists w h m = (m.0, branch_full (does bk br s (AddsTwo c d) h) m.1)
  crowded (Links e) ps f InLists w h m = (m.0, branch_full (does bk br s (Links e) h) m.1)
  crowded (Grows x r g k) ps f InLists w h m = (m.0, branch_full (does bk br s (Grows x r g k) h) m.1)
  crowded (GrowsTwo x r g i k) ps f InLists w h m = (m.0, branch_full (does bk br s (GrowsTwo x r g i k) h) m.1)
  crowded (Splits c d) ps f InLists w h m = (m.0, split_full (does bk br s (Splits c d) h) m.1)
  crowded Closes [] f InLists w h m = absurd m
  crowded Closes (p ∷ ps) f InLists w h m = absurd (m.1 (second_room br p ps at cs es sp w))

  -- why a step is refused
  pub stopped : (ps : List PendingSplit) (f : StepFault) (InLists : Counts → WorkState → Type 0) → Represents br ps at cs es sp → TakeAnswer bk ls InLists br ps s (Err f) → StepReason bk ls f br (length (map second_branch ps)) s
  stopped ps f InLists w t =
      ⊎_elim (because bk br s ls (length (map second_branch ps)) f)
      (λ k.
      let r = crowded k.0 ps f InLists w k.1 k.2 in
      subst (λ v. StepReason bk ls v br (length (map second_branch ps)) s) (sym r.0) (subst (λ n. NoRoom bk ls br n s) (sym (length-map ps second_branch)) r.1))
      t
