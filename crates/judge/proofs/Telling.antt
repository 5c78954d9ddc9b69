-- The number and the place of what the work answers. Assumes nothing.
use Rattle.std.proofs.Common.{ℕ, List, Ok, Err, IfErr, Result, refl}
use Rattle.logic.specs.Books.{Book}
use Rattle.logic.specs.Limits.{Lengths}
use Rattle.judge.specs.declared.faults.RefuteFault.{RefuteFault}
use Rattle.judge.specs.declared.faults.RefuteFault.TheVariants.{BadLength, AtStep, AfterClosing, NotClosed}
use Rattle.judge.specs.declared.step_fault.StepFault.TheVariants.{Malformed, NeverEntered, NotThere, Struck, Misfit, Full}
use Rattle.judge.specs.declared.used.Used.{Used}
use Rattle.judge.specs.Faults.{HasNumberAndPlace}
use Rattle.judge.specs.Reasons.{StepsReason}
use Rattle.judge.specs.Steps.{decoded}
use Rattle.judge.specs.Taking.{WorkAnswer}

module _ (bk : Book) (ls : Lengths) (bs : List ℕ) where
  halted : (f : RefuteFault) → StepsReason bk ls (decoded bs) f → HasNumberAndPlace bs f
  halted (BadLength n) h = absurd h
  halted (AtStep i Malformed) h = (refl, refl)
  halted (AtStep i NeverEntered) h = (refl, refl)
  halted (AtStep i NotThere) h = (refl, refl)
  halted (AtStep i Struck) h = (refl, refl)
  halted (AtStep i Misfit) h = (refl, refl)
  halted (AtStep i Full) h = (refl, refl)
  halted (AfterClosing i) h = (refl, refl)
  halted (NotClosed n) h = (refl, h.0)

  pub worked_told : (r : Result Used RefuteFault) → WorkAnswer bk ls (decoded bs) r → IfErr r (HasNumberAndPlace bs)
  worked_told (Ok u) h = tt
  worked_told (Err f) h = halted f h
