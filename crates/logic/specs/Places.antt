-- Places of a list, numbered from 0.
-- At: a value is at a place.
-- Assumes nothing.
use Rattle.std.specs.Prelude.{◌≡◌, ℕ, ◌<◌, List, length, slice_index_or}

-- x is at place i of the list
pub record At {A : Type 0} (xs : List A) (i : ℕ) (x : A) : Type 0 where
  pub within : i < length xs
  pub is : slice_index_or xs i x ≡ x
