-- Why a tableau is refused, in the terms of the calculus.
-- WellNamed: a step is well formed and what it names exists. NoRoom: a rule permits the step, but there is
-- no room for its result. Stopped: the checker is before a step. StepReason, StepsReason, RefuteReason: the reason of
-- each case of the faults.
-- Assumes nothing.
use Rattle.std.specs.Prelude.{◌≡◌, ℕ, suc, ◌<◌, true, false, List, length, take}
use Rattle.logic.specs.declared.tableau.Step.{Step}
use Rattle.logic.specs.Places.{At}
use Rattle.logic.specs.Books.{Book}
use Rattle.logic.specs.Branches.{Branch}
use Rattle.logic.specs.Rules.{Extends, Splits, NoRule}
use Rattle.logic.specs.Limits.{Lengths}
use Rattle.judge.specs.declared.faults.RefuteFault.{RefuteFault}
use Rattle.judge.specs.declared.faults.RefuteFault.TheVariants.{BadLength, AtStep, AfterClosing, NotClosed}
use Rattle.judge.specs.declared.step_fault.StepFault.{StepFault}
use Rattle.judge.specs.declared.step_fault.StepFault.TheVariants.{Malformed, NeverEntered, NotThere, Struck, Misfit, Full}
use Rattle.judge.specs.Steps.{decoded, WholeSteps}
use Rattle.judge.specs.Ops.{malformed, never_entered, lacks_operand, names_struck}
use Rattle.judge.specs.Progress.{Room, Underway, Finished}

-- the step is well formed, and all that it names exists
pub record WellNamed (bk : Book) (br : Branch) (s : Step) : Type 0 where
  pub formed : malformed s ≡ false
  pub entered : never_entered bk s ≡ false
  pub present : lacks_operand br s ≡ false
  pub live : names_struck bk s ≡ false

-- a rule permits the step, but there is no room for the branch that it makes
pub data NoRoom (bk : Book) (ls : Lengths) (br : Branch) (pending : ℕ) (s : Step) : Type 0 where
  branch_full : {b : Branch} → Extends bk br s b → (Room ls pending b → ⊥) → NoRoom bk ls br pending s
  split_full : {left right : Branch} → Splits bk br s left right → (Room ls (suc pending) left → ⊥) → NoRoom bk ls br pending s

-- the steps before step i are taken, a branch br is open with k splits pending, and P br k s holds,
-- where s is step i
pub record Stopped (bk : Book) (ls : Lengths) (ss : List Step) (i : ℕ) (P : Branch → ℕ → Step → Type 0) : Type 0 where
  pub current : Step
  pub here : At ss i current
  pub branch : Branch
  pub pending : List Branch
  pub underway : Underway bk ls (take i ss) branch pending
  pub because : P branch (length pending) current

-- Why step s is refused on the branch br with so many splits pending. The tests of a step run in the
-- order of the cases: its form, then what it names, then its rule, then the room.
abbrev pub StepReason : Book → Lengths → StepFault → Branch → ℕ → Step → Type 0
StepReason bk ls Malformed br pending s = malformed s ≡ true
StepReason bk ls NeverEntered br pending s = (malformed s ≡ false) × (never_entered bk s ≡ true)
StepReason bk ls NotThere br pending s = (malformed s ≡ false) × (never_entered bk s ≡ false) × (lacks_operand br s ≡ true)
StepReason bk ls Struck br pending s =
    (malformed s ≡ false) × (never_entered bk s ≡ false) × (lacks_operand br s ≡ false) × (names_struck bk s ≡ true)
StepReason bk ls Misfit br pending s = WellNamed bk br s × NoRule bk br s
StepReason bk ls Full br pending s = NoRoom bk ls br pending s

-- why steps are refused: one of them is, or one comes after closing, or a branch is still open at the end
abbrev pub StepsReason : Book → Lengths → List Step → RefuteFault → Type 0
StepsReason bk ls ss (BadLength n) = ⊥
StepsReason bk ls ss (AtStep i f) = Stopped bk ls ss i (StepReason bk ls f)
StepsReason bk ls ss (AfterClosing i) = (i < length ss) × Finished bk ls (take i ss)
StepsReason bk ls ss (NotClosed n) = (n ≡ length ss) × ((br : Branch) × (ps : List Branch) × Underway bk ls ss br ps)

-- why bytes are refused: by their length, or by their steps
pub data RefuteReason (bk : Book) (ls : Lengths) (bs : List ℕ) : RefuteFault → Type 0 where
  by_length : (WholeSteps bs → ⊥) → RefuteReason bk ls bs (BadLength (length bs))
  by_steps : {f : RefuteFault} → WholeSteps bs → StepsReason bk ls (decoded bs) f → RefuteReason bk ls bs f
