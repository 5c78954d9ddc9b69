-- The number and the place of each case of the docket's fault: those of the lower fault that it holds.
-- Assumes nothing.
use Rattle.std.specs.Prelude.{ℕ}
use Rattle.books.specs.Faults.{offer_fault_number, offer_fault_place, strike_fault_number, strike_fault_place}
use Rattle.judge.specs.Faults.{refute_fault_number, refute_fault_place}
use Rattle.judge.specs.ShowFaults.{show_fault_number, show_fault_place}
use Rattle.docket.specs.declared.fault.Fault.{Fault}
use Rattle.docket.specs.declared.fault.Fault.TheVariants.{Node, Enter, Strike, Refute, Show}

abbrev pub fault_number : Fault → ℕ
fault_number (Node f) = offer_fault_number f
fault_number (Enter f) = offer_fault_number f
fault_number (Strike f) = strike_fault_number f
fault_number (Refute f) = refute_fault_number f
fault_number (Show f) = show_fault_number f

abbrev pub fault_place : Fault → ℕ
fault_place (Node f) = offer_fault_place f
fault_place (Enter f) = offer_fault_place f
fault_place (Strike f) = strike_fault_place f
fault_place (Refute f) = refute_fault_place f
fault_place (Show f) = show_fault_place f
