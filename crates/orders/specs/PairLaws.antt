-- Orders by pairs: four bytes for each element, the mask of the elements that are better.
-- order_of_pairs: the order that bytes encode. LawfulRow: what the set of one element must satisfy.
-- PairsLawful: the bytes encode a strict order.
-- Assumes nothing.
use Rattle.std.specs.Prelude.{◌≡◌, ℕ, ◌*◌, ◌/◌, ◌%◌, ◌<◌, ◌≤◌, true, false, List, length, Some, None, Option, slice_index}
use Rattle.logic.specs.Bytes.{u32_at}
use Rattle.orders.specs.Masks.{element_limit, has, Within, Includes, Preference, Strict}

-- the order that the bytes encode
abbrev pub order_of_pairs : List ℕ → Preference
order_of_pairs bs = record { size = length bs / 4; better = λ x. u32_at bs (4 * x) }

-- four bytes for each of at least one element, and not too many elements
pub record WholeRows (bs : List ℕ) : Type 0 where
  pub fours : length bs % 4 ≡ 0
  pub some : 4 ≤ length bs
  pub few : length bs ≤ 4 * element_limit

-- the bytes encode a strict order
abbrev pub PairsLawful : List ℕ → Type 0
PairsLawful bs = WholeRows bs × Strict (order_of_pairs bs)

-- if the row has y, it includes the row of y
abbrev pub TransitiveAt : List ℕ → ℕ → ℕ → Type 0
TransitiveAt rows row y = has row y ≡ true → Includes row (slice_index rows y)

-- the set of x has no element past the size and not x itself, and includes the set of each of its elements
pub record LawfulRow (o : Preference) (x : ℕ) : Type 0 where
  pub within : Within o.size (o.better x)
  pub other : has (o.better x) x ≡ false
  pub closed : (y : ℕ) → has (o.better x) y ≡ true → Includes (o.better x) (o.better y)

-- x is the lowest element whose set is not lawful
pub record LowestUnlawful (o : Preference) (x : ℕ) : Type 0 where
  pub within : x < o.size
  pub unlawful : LawfulRow o x → ⊥
  pub lowest : (w : ℕ) → w < x → LawfulRow o w

-- the lowest element whose set is not lawful, if there is one
abbrev pub FirstUnlawful : Preference → Option ℕ → Type 0
FirstUnlawful o None = (x : ℕ) → x < o.size → LawfulRow o x
FirstUnlawful o (Some x) = LowestUnlawful o x
