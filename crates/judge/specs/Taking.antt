-- What is promised of steps in the working lists. Only contracts of private functions use it.
-- TakeAnswer: a step is taken, or refused, by the rules and by the room there is.
-- WorkAnswer: all steps are taken, or one is refused.
-- Assumes nothing.
use Rattle.std.specs.Prelude.{◌≡◌, ◌⊎◌, List, Ok, Err, Result}
use Rattle.logic.specs.declared.tableau.Step.{Step}
use Rattle.logic.specs.Books.{Book}
use Rattle.logic.specs.Branches.{Branch}
use Rattle.logic.specs.Limits.{Lengths}
use Rattle.judge.specs.declared.effect.Effect.{Effect}
use Rattle.judge.specs.declared.step.Taken.{Taken}
use Rattle.judge.specs.declared.step_fault.StepFault.{StepFault}
use Rattle.judge.specs.declared.working.Counts.{Counts}
use Rattle.judge.specs.declared.faults.RefuteFault.{RefuteFault}
use Rattle.judge.specs.declared.used.Used.{Used}
use Rattle.judge.specs.StepEffects.{step_effect}
use Rattle.judge.specs.Members.{marks_of}
use Rattle.judge.specs.Progress.{Finished}
use Rattle.judge.specs.Reasons.{StepsReason}
use Rattle.judge.specs.WorkingLists.{PendingSplit, WorkState, state_after, ReachesState}

-- the first predicate: at these counts the lists hold the state
abbrev pub TakeAnswer : Book → Lengths → (Counts → WorkState → Type 0) → Branch → List PendingSplit → Step → Result Taken StepFault → Type 0
TakeAnswer bk ls InLists br ps s (Ok t) = (step_effect bk br s ≡ Ok t.effect) × ReachesState ls InLists (state_after t.effect br ps) (Ok t.at)
TakeAnswer bk ls InLists br ps s (Err f) =
    (step_effect bk br s ≡ Err f) ⊎ ((e : Effect) × (step_effect bk br s ≡ Ok e) × ReachesState ls InLists (state_after e br ps) (Err f))

-- what is promised of taking a list of steps
abbrev pub WorkAnswer : Book → Lengths → List Step → Result Used RefuteFault → Type 0
WorkAnswer bk ls ss (Ok u) = Finished bk ls ss × (u.marks ≡ marks_of ss)
WorkAnswer bk ls ss (Err f) = StepsReason bk ls ss f
