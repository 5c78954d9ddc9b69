-- The number and the place of each case of each fault of an editable book.
-- Assumes nothing.
use Rattle.std.specs.Prelude.{ℕ}
use Rattle.books.specs.declared.faults.Unfit.{Unfit}
use Rattle.books.specs.declared.faults.Unfit.TheVariants as unfit
use Rattle.books.specs.declared.faults.Reason.{Reason}
use Rattle.books.specs.declared.faults.Reason.TheVariants as reasons
use Rattle.books.specs.declared.faults.OfferFault.{OfferFault}
use Rattle.books.specs.declared.faults.StrikeFault.{StrikeFault}
use Rattle.books.specs.declared.faults.StrikeFault.TheVariants as strikes

abbrev pub unfit_number : Unfit → ℕ
unfit_number unfit.UnknownKind = 2
unfit_number unfit.OutOfRange = 3
unfit_number unfit.NoSuchNode = 4
unfit_number unfit.TypicalMisplaced = 5

abbrev pub reason_number : Reason → ℕ
reason_number reasons.Full = 1
reason_number (reasons.Unfit u) = unfit_number u

-- for an offered node and for an offered entry
abbrev pub offer_fault_number : {R : Type 0} → OfferFault R → ℕ
offer_fault_number f = reason_number f.reason

-- the count of nodes, or that of entries
abbrev pub offer_fault_place : {R : Type 0} → OfferFault R → ℕ
offer_fault_place f = f.count

-- an entry that was never entered and one that is struck already have one number
abbrev pub strike_fault_number : StrikeFault → ℕ
strike_fault_number (strikes.NeverEntered i) = 6
strike_fault_number (strikes.Struck i) = 6

-- the number of the entry that was to be struck
abbrev pub strike_fault_place : StrikeFault → ℕ
strike_fault_place (strikes.NeverEntered i) = i
strike_fault_place (strikes.Struck i) = i
