-- Sets of elements as masks, and strict orders, given for each element by the set of better elements.
-- has: an element is in a set. all_below, mask_of: the mask of given elements. meeting: two sets have
-- an element in common. Within, Includes: what a set has. Preference: an order. Strict: its laws.
-- by_rows: the order of a table of masks.
-- Assumes nothing.
use Rattle.std.specs.Prelude.{◌≡◌, ℕ, zero, suc, ◌+◌, ◌-◌, ◌*◌, ◌/◌, ◌%◌, ◌^◌, ◌<◌, ◌≤◌, min, Bool, true, false, if◌then◌else◌, not, List, ◌==◌, bit_and, slice_index}

-- the most elements of an order, one for each bit of a mask
abbrev pub element_limit : ℕ
element_limit = 32

-- element y is in the set: bit y of the mask
abbrev pub has : ℕ → ℕ → Bool
has mask zero = mask % 2 == 1
has mask (suc y) = has (mask / 2) y

-- every element below n, at most the limit
abbrev pub all_below : ℕ → ℕ
all_below n = 2 ^ min n element_limit - 1

-- the mask of those of the k elements from x on that pass the test; bit 0 is element x
abbrev pub gathered : (ℕ → Bool) → ℕ → ℕ → ℕ
gathered p x zero = 0
gathered p x (suc k) = (if p x then 1 else 0) + 2 * gathered p (x + 1) k

-- the mask of the elements below n that pass the test
abbrev pub mask_of : (ℕ → Bool) → ℕ → ℕ
mask_of p n = gathered p 0 n

-- the two sets have an element in common
abbrev pub meeting : ℕ → ℕ → Bool
meeting set other = not ((bit_and set other) == 0)

-- the set has only elements below n
abbrev pub Within : ℕ → ℕ → Type 0
Within n set = (y : ℕ) → has set y ≡ true → y < n

-- the set has every element of the other
abbrev pub Includes : ℕ → ℕ → Type 0
Includes set other = (y : ℕ) → has other y ≡ true → has set y ≡ true

-- The elements are the numbers below size; better x is the mask of the elements better than x. No law is required.
pub record Preference : Type 0 where
  pub size : ℕ
  pub better : ℕ → ℕ

-- a strict order on at least one element, with nothing past the size
pub record Strict (o : Preference) : Type 0 where
  pub some : 1 ≤ o.size
  pub few : o.size ≤ element_limit
  pub within : (x : ℕ) → Within o.size (o.better x)
  pub past : (x : ℕ) → o.size ≤ x → o.better x ≡ 0
  pub irreflexive : (x : ℕ) → has (o.better x) x ≡ false
  pub transitive : (x y z : ℕ) → has (o.better x) y ≡ true → has (o.better y) z ≡ true → has (o.better x) z ≡ true

-- the order of a table of masks
abbrev pub by_rows : ℕ → List ℕ → Preference
by_rows n masks = record { size = n; better = λ x. slice_index masks x }

-- one element, and none better
abbrev pub alone : Preference
alone = record { size = 1; better = λ x. 0 }

-- the table has the value of the function at every place
abbrev pub Tabulates : (ℕ → ℕ) → List ℕ → Type 0
Tabulates f masks = (x : ℕ) → slice_index masks x ≡ f x
