-- The number and the place of each case of the fault of reading an interpretation.
-- Assumes nothing.
use Rattle.std.specs.Prelude.{ℕ}
use Rattle.models.specs.declared.faults.ViewFault.{ViewFault}
use Rattle.models.specs.declared.faults.ViewFault.TheVariants.{BadLength, BadField}

abbrev pub view_fault_number : ViewFault → ℕ
view_fault_number (BadLength n) = 7
view_fault_number (BadField k) = 14

-- the length, or the first byte of the field
abbrev pub view_fault_place : ViewFault → ℕ
view_fault_place (BadLength n) = n
view_fault_place (BadField k) = k
