-- The number and the place of each case of the fault of a hand-in: those of the lower fault that it holds.
-- Assumes nothing.
use Rattle.std.specs.Prelude.{ℕ}
use Rattle.sealed.specs.Faults.{check_fault_number, check_fault_place}
use Rattle.orders.specs.Faults.{pairs_fault_number, pairs_fault_place}
use Rattle.judge.specs.Faults.{refute_fault_number, refute_fault_place}
use Rattle.judge.specs.ShowFaults.{show_fault_number, show_fault_place}
use Rattle.verdict.specs.declared.mark_fault.MarkFault.{MarkFault}
use Rattle.verdict.specs.declared.mark_fault.MarkFault.TheVariants.{Check, Pairs, Refute, Show}

abbrev pub mark_fault_number : MarkFault → ℕ
mark_fault_number (Check f) = check_fault_number f
mark_fault_number (Pairs f) = pairs_fault_number f
mark_fault_number (Refute f) = refute_fault_number f
mark_fault_number (Show f) = show_fault_number f

abbrev pub mark_fault_place : MarkFault → ℕ
mark_fault_place (Check f) = check_fault_place f
mark_fault_place (Pairs f) = pairs_fault_place f
mark_fault_place (Refute f) = refute_fault_place f
mark_fault_place (Show f) = show_fault_place f
