-- Orders by ranks: one byte for each element, and y is better than x when its byte is lower.
-- order_of_ranks: the order that ranks encode. RanksLawful: how many there are.
-- Assumes nothing.
use Rattle.std.specs.Prelude.{ℕ, ◌≤◌, List, length, nat_lt}
use Rattle.logic.specs.Bytes.{byte}
use Rattle.orders.specs.Masks.{element_limit, mask_of, Preference}

-- the order that the ranks encode; past the end the rank is 0, and no rank is lower
abbrev pub order_of_ranks : List ℕ → Preference
order_of_ranks rs = record { size = length rs; better = λ x. mask_of (λ y. nat_lt (byte rs y) (byte rs x)) (length rs) }

-- one rank for each element; at least one element, and at most the limit
abbrev pub RanksLawful : List ℕ → Type 0
RanksLawful rs = (1 ≤ length rs) × (length rs ≤ element_limit)
