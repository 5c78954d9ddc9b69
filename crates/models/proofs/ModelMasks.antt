-- Masks of the elements of a model that pass a test. Assumes nothing.
use Rattle.std.proofs.Common.{◌≡◌, ℕ, ◌^◌, ◌<◌, ◌≤◌, Bool, ◌&&◌, sym, ap, ◌∙◌, arith, pow_mono}
use Rattle.std.proofs.lemmas.Bool.{and_parts, ltb-true, lt-ltb}
use Rattle.logic.specs.Models.{Model}
use Rattle.orders.specs.Masks.{has, mask_of, Within}
use Rattle.orders.proofs.MaskBits.{mask_has, mask_below}

module _ (m : Model) (few : m.size ≤ 32) where
  -- a mask of elements has 32 bits
  pub mask_small : (p : ℕ → Bool) → mask_of p m.size < 2 ^ 32
  mask_small p = let most : 2 ^ m.size ≤ 2 ^ 32 = pow_mono few in omega (arith, mask_below p m.size)

  -- and has only elements
  pub mask_within : (p : ℕ → Bool) → Within m.size (mask_of p m.size)
  mask_within p y h = ltb-true _ _ (and_parts _ _ (sym (mask_has p m.size y) ∙ h)).0

  -- on the elements it has what the test says
  pub mask_at : (p : ℕ → Bool) (y : ℕ) → y < m.size → has (mask_of p m.size) y ≡ p y
  mask_at p y h = mask_has p m.size y ∙ ap (λ b. b && p y) (lt-ltb y m.size h)
