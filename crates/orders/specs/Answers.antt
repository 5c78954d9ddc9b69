-- What filling an order answers.
-- PairsRefused, RanksRefused: which fault is answered for bytes that are not lawful. FillAnswer: what the
-- call answers and does; old is the order before the call and new the order after it.
-- Assumes nothing.
use Rattle.std.specs.Prelude.{◌≡◌, ℕ, List, length, Ok, Err, Result}
use Rattle.logic.specs.declared.refusal.BadLength.{BadLength}
use Rattle.logic.specs.Lengths.{bad_length_number, bad_length_place}
use Rattle.orders.specs.declared.faults.PairsFault.{PairsFault}
use Rattle.orders.specs.declared.faults.PairsFault.TheVariants as pairs
use Rattle.orders.specs.Masks.{Preference}
use Rattle.orders.specs.PairLaws.{order_of_pairs, WholeRows, LowestUnlawful}
use Rattle.orders.specs.RankLaws.{RanksLawful}
use Rattle.orders.specs.Faults.{pairs_fault_number, pairs_fault_place}

-- 7 with the length unless there are four bytes for each of 1 to 32 elements, 15 with the lowest element
-- whose set is not lawful. Both are written out: if the definitions of the fault's number and place are wrong, the call
-- does not prove.
abbrev pub PairsRefused : List ℕ → PairsFault → Type 0
PairsRefused bs (pairs.BadLength n) = (WholeRows bs → ⊥) × (pairs_fault_number (pairs.BadLength n) ≡ 7) × (pairs_fault_place (pairs.BadLength n) ≡ length bs)
PairsRefused bs (pairs.Unlawful x) = WholeRows bs × (pairs_fault_number (pairs.Unlawful x) ≡ 15) × LowestUnlawful (order_of_pairs bs) (pairs_fault_place (pairs.Unlawful x))

-- 7 with the length
abbrev pub RanksRefused : List ℕ → BadLength 7 → Type 0
RanksRefused bs f = (RanksLawful bs → ⊥) × (bad_length_number f ≡ 7) × (bad_length_place f ≡ length bs)

-- granted: the bytes are lawful, and the order is the one that they encode; refused: nothing changed
abbrev pub FillAnswer : {F : Type 0} → (List ℕ → Type 0) → (List ℕ → Preference) → (List ℕ → F → Type 0) → Preference → Preference → List ℕ → Result (Unit {0}) F → Type 0
FillAnswer Lawful order_of_bytes Refused old new bs (Ok u) = Lawful bs × (new ≡ order_of_bytes bs)
FillAnswer Lawful order_of_bytes Refused old new bs (Err f) = Refused bs f × (new ≡ old)
