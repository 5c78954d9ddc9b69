-- What is proved of masks.
-- MaskHas: the mask of a test has exactly the elements that pass it.
-- Assumes nothing.
use Rattle.std.specs.Prelude.{◌≡◌, ℕ, Bool, ◌&&◌, nat_lt}
use Rattle.orders.specs.Masks.{has, mask_of}

-- the mask of a test has the elements below n that pass it, and no other
abbrev pub MaskHas : Type 0
MaskHas = (p : ℕ → Bool) (n y : ℕ) → has (mask_of p n) y ≡ (nat_lt y n && p y)
