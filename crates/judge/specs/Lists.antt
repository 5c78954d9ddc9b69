-- Lists of records that have a blank.
-- Blanked: a part of a list is blanked. Listed: the records of a list that are in use.
-- Assumes nothing.
use Rattle.std.specs.Prelude.{◌≡◌, ℕ, ◌<◌, ◌≤◌, ◌&&◌, if◌then◌else◌, List, length, nat_le, nat_lt, slice_index_or}

-- the records from a up to b are the blank z, and the others are as they were
abbrev pub Blanked : {A : Type 0} → A → ℕ → ℕ → List A → List A → Type 0
Blanked z a b before after = (i : ℕ) →
    slice_index_or after i z ≡ (if nat_le a i && nat_lt i b then z else slice_index_or before i z)

-- the first len records of a list are xs; nothing is said of the rest
pub record Listed {A : Type 0} (z : A) (list : List A) (len : ℕ) (xs : List A) : Type 0 where
  pub agree : (i : ℕ) → i < len → slice_index_or list i z ≡ slice_index_or xs i z
  pub count : length xs ≡ len
  pub fits : len ≤ length list
