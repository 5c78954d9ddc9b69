-- What reading an interpretation answers.
-- HasModelLength: the bytes have the length of an interpretation. ReadAnswer: what the call answers.
-- Assumes nothing.
use Rattle.std.specs.Prelude.{◌≡◌, ℕ, List, length, Ok, Err, Result}
use Rattle.models.specs.declared.faults.ViewFault.{ViewFault}
use Rattle.models.specs.declared.faults.ViewFault.TheVariants.{BadLength, BadField}
use Rattle.models.specs.declared.view.View.{View}
use Rattle.models.specs.Interpretations.{bytes_of_interpretation, interpretation_of}
use Rattle.models.specs.Fields.{LowestBad}
use Rattle.models.specs.Views.{view_meaning}
use Rattle.models.specs.Faults.{view_fault_number, view_fault_place}

abbrev pub HasModelLength : List ℕ → Type 0
HasModelLength bs = length bs ≡ bytes_of_interpretation

-- 7 with the length, or 14 with the first byte of the lowest bad field. Both are written out: if the definitions of the
-- fault's number and place are wrong, the call does not prove.
abbrev pub ViewRefused : List ℕ → ViewFault → Type 0
ViewRefused bs (BadLength n) = (HasModelLength bs → ⊥) × (view_fault_number (BadLength n) ≡ 7) × (view_fault_place (BadLength n) ≡ length bs)
ViewRefused bs (BadField k) = HasModelLength bs × (view_fault_number (BadField k) ≡ 14) × LowestBad (interpretation_of bs) (view_fault_place (BadField k))

-- a view of the interpretation that the bytes encode, or why there is none
abbrev pub ReadAnswer : List ℕ → Result View ViewFault → Type 0
ReadAnswer bs (Ok v) = HasModelLength bs × (view_meaning v ≡ interpretation_of bs)
ReadAnswer bs (Err f) = ViewRefused bs f
