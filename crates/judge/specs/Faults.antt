-- The number and the place of each case of the fault of refute.
-- step_fault_number, refute_fault_number, refute_fault_place: the number and the place of a fault.
-- HasNumberAndPlace: what they must be for the bytes that were handed in.
-- Assumes nothing.
use Rattle.std.specs.Prelude.{◌≡◌, ℕ, List, length}
use Rattle.judge.specs.declared.faults.RefuteFault.{RefuteFault}
use Rattle.judge.specs.declared.faults.RefuteFault.TheVariants.{BadLength, AtStep, AfterClosing, NotClosed}
use Rattle.judge.specs.declared.step_fault.StepFault.{StepFault}
use Rattle.judge.specs.declared.step_fault.StepFault.TheVariants.{Malformed, NeverEntered, NotThere, Struck, Misfit, Full}
use Rattle.judge.specs.Steps.{decoded}

-- an entry that was never entered, one that is struck, and what a branch lacks have one number
abbrev pub step_fault_number : StepFault → ℕ
step_fault_number Malformed = 8
step_fault_number NeverEntered = 9
step_fault_number NotThere = 9
step_fault_number Struck = 9
step_fault_number Misfit = 10
step_fault_number Full = 11

abbrev pub refute_fault_number : RefuteFault → ℕ
refute_fault_number (BadLength n) = 7
refute_fault_number (AtStep i f) = step_fault_number f
refute_fault_number (AfterClosing i) = 12
refute_fault_number (NotClosed n) = 13

-- the length of the bytes, the step, or the count of steps
abbrev pub refute_fault_place : RefuteFault → ℕ
refute_fault_place (BadLength n) = n
refute_fault_place (AtStep i f) = i
refute_fault_place (AfterClosing i) = i
refute_fault_place (NotClosed n) = n

-- Case by case, the number and the place of the fault, written out. This repeats the definitions above on purpose: they
-- could be changed together with the code of the fault, but then this clause of `refute` does not prove.
abbrev pub HasNumberAndPlace : List ℕ → RefuteFault → Type 0
HasNumberAndPlace bs (BadLength n) = (refute_fault_number (BadLength n) ≡ 7) × (refute_fault_place (BadLength n) ≡ length bs)
HasNumberAndPlace bs (AtStep i Malformed) = (refute_fault_number (AtStep i Malformed) ≡ 8) × (refute_fault_place (AtStep i Malformed) ≡ i)
HasNumberAndPlace bs (AtStep i NeverEntered) = (refute_fault_number (AtStep i NeverEntered) ≡ 9) × (refute_fault_place (AtStep i NeverEntered) ≡ i)
HasNumberAndPlace bs (AtStep i NotThere) = (refute_fault_number (AtStep i NotThere) ≡ 9) × (refute_fault_place (AtStep i NotThere) ≡ i)
HasNumberAndPlace bs (AtStep i Struck) = (refute_fault_number (AtStep i Struck) ≡ 9) × (refute_fault_place (AtStep i Struck) ≡ i)
HasNumberAndPlace bs (AtStep i Misfit) = (refute_fault_number (AtStep i Misfit) ≡ 10) × (refute_fault_place (AtStep i Misfit) ≡ i)
HasNumberAndPlace bs (AtStep i Full) = (refute_fault_number (AtStep i Full) ≡ 11) × (refute_fault_place (AtStep i Full) ≡ i)
HasNumberAndPlace bs (AfterClosing i) = (refute_fault_number (AfterClosing i) ≡ 12) × (refute_fault_place (AfterClosing i) ≡ i)
HasNumberAndPlace bs (NotClosed n) = (refute_fault_number (NotClosed n) ≡ 13) × (refute_fault_place (NotClosed n) ≡ length (decoded bs))
