-- The number and the place of each case of a fault of an order by pairs.
-- Assumes nothing.
use Rattle.std.specs.Prelude.{ℕ}
use Rattle.orders.specs.declared.faults.PairsFault.{PairsFault}
use Rattle.orders.specs.declared.faults.PairsFault.TheVariants as pairs

abbrev pub pairs_fault_number : PairsFault → ℕ
pairs_fault_number (pairs.BadLength n) = 7
pairs_fault_number (pairs.Unlawful x) = 15

-- the length, or the element
abbrev pub pairs_fault_place : PairsFault → ℕ
pairs_fault_place (pairs.BadLength n) = n
pairs_fault_place (pairs.Unlawful x) = x
