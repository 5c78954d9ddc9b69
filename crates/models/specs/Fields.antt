-- The fields of an interpretation, and which of them are good.
-- Field, first_byte: a field and its offset. InBytes: the bytes have the field. Good: what a field must satisfy. Valid:
-- every field is good. LowestBad: the first byte of the lowest field that is not. FirstWithout: the lowest number that
-- lacks a property.
-- Assumes nothing.
use Rattle.std.specs.Prelude.{◌≡◌, ℕ, ◌<◌, ◌≤◌, Some, None, Option}
use Rattle.logic.specs.Bounds.{name_limit, role_limit, individual_limit}
use Rattle.orders.specs.Masks.{element_limit, Within}
use Rattle.models.specs.Interpretations.{Interpretation, name_place, role_place, individual_place}

-- the size, the set of a name, the set of a role at an element, the element of an individual
pub data Field : Type 0 where
  size : Field
  name : ℕ → Field
  role : ℕ → ℕ → Field
  individual : ℕ → Field

abbrev pub first_byte : Field → ℕ
first_byte size = 0
first_byte (name a) = name_place a
first_byte (role r x) = role_place r x
first_byte (individual a) = individual_place a

-- one of the fields that the bytes have; no two of them begin at one byte
abbrev pub InBytes : Field → Type 0
InBytes size = Unit {0}
InBytes (name a) = a < name_limit
InBytes (role r x) = (r < role_limit) × (x < element_limit)
InBytes (individual a) = a < individual_limit

-- The set may be the successors of x among n elements: it has only elements below n, and none if x is not below n.
abbrev pub SuccessorsWithin : ℕ → ℕ → ℕ → Type 0
SuccessorsWithin n x set = Within n set × (n ≤ x → set ≡ 0)

-- The size is 1 to 32, every field names only elements below it, and no role leads from an element that is
-- not below it.
abbrev pub Good : Interpretation → Field → Type 0
Good i size = (1 ≤ i.size) × (i.size ≤ 32)
Good i (name a) = Within i.size (i.names a)
Good i (role r x) = SuccessorsWithin i.size x (i.successors r x)
Good i (individual a) = i.individual a < i.size

-- every field is good
abbrev pub Valid : Interpretation → Type 0
Valid i = (f : Field) → Good i f

-- k is the first byte of a field that is not good, and every field before it is
pub record LowestBad (i : Interpretation) (k : ℕ) : Type 0 where
  pub field : Field
  pub in_bytes : InBytes field
  pub stands : first_byte field ≡ k
  pub bad : Good i field → ⊥
  pub lowest : (f : Field) → first_byte f < k → Good i f

-- the lowest number below a limit that lacks the property, if there is one
abbrev pub FirstWithout : (ℕ → Type 0) → ℕ → Option ℕ → Type 0
FirstWithout P n None = (k : ℕ) → k < n → P k
FirstWithout P n (Some k) = (k < n) × (P k → ⊥) × ((j : ℕ) → j < k → P j)

-- the lowest bad field, if there is one
abbrev pub FirstBad : Interpretation → Option ℕ → Type 0
FirstBad i None = Valid i
FirstBad i (Some k) = LowestBad i k
