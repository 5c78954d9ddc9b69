-- The number and the place of each case of the fault of show: those of the lower fault that it holds, or
-- its own.
-- Assumes nothing.
use Rattle.std.specs.Prelude.{ℕ}
use Rattle.logic.specs.Lengths.{bad_length_number, bad_length_place}
use Rattle.models.specs.Faults.{view_fault_number, view_fault_place}
use Rattle.judge.specs.declared.show_faults.ShowFault.{ShowFault}
use Rattle.judge.specs.declared.show_faults.ShowFault.TheVariants.{View, OrderSize, Fill, EntryFails}

abbrev pub show_fault_number : ShowFault → ℕ
show_fault_number (View f) = view_fault_number f
show_fault_number (OrderSize n) = 16
show_fault_number (Fill f) = bad_length_number f
show_fault_number (EntryFails i) = 18

-- the order's size, or the entry
abbrev pub show_fault_place : ShowFault → ℕ
show_fault_place (View f) = view_fault_place f
show_fault_place (OrderSize n) = n
show_fault_place (Fill f) = bad_length_place f
show_fault_place (EntryFails i) = i
