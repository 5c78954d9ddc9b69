-- The number and the place of each case of the fault of check.
-- Assumes nothing.
use Rattle.std.specs.Prelude.{ℕ}
use Rattle.books.specs.Faults.{unfit_number}
use Rattle.sealed.specs.declared.faults.CheckFault.{CheckFault}
use Rattle.sealed.specs.declared.faults.CheckFault.TheVariants as checks

abbrev pub check_fault_number : CheckFault → ℕ
check_fault_number (checks.BadFrame length) = 19
check_fault_number (checks.BadRecord unfit byte) = unfit_number unfit

-- the length of the bytes, or the first byte of the record
abbrev pub check_fault_place : CheckFault → ℕ
check_fault_place (checks.BadFrame length) = length
check_fault_place (checks.BadRecord unfit byte) = byte
