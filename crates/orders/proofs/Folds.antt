-- A mask that is gathered one element after the other. Assumes nothing.
use Rattle.std.proofs.Common.{◌≡◌, ℕ, zero, suc, ◌+◌, ◌*◌, ◌%◌, ◌^◌, ◌<◌, ◌≤◌, Bool, true, false, cond, sym, ap, ◌∙◌, arith, pow_mono}
use native.Mathlib.Nat.{pow-succ'}
use mir.Val.{bool_byte}
use lib.Bits.{bit_or}
use Rattle.std.specs.Int.Bits.{or_shifted_r}
use Rattle.orders.specs.Masks.{gathered, mask_of}
use Rattle.orders.proofs.MaskBits.{gathered_below}

as_number : (b : Bool) → cond b 1 0 ≡ bool_byte b
as_number true = omega arith
as_number false = omega arith

-- one element more, at the end
gathered_last : (p : ℕ → Bool) (k x : ℕ) → gathered p x (suc k) ≡ bool_byte (p (x + k)) * 2 ^ k + gathered p x k
gathered_last p zero x =
    let e : x + 0 ≡ x = omega arith in
    let b : bool_byte (p (x + 0)) ≡ cond (p x) 1 0 = ap (λ y. bool_byte (p y)) e ∙ sym (as_number (p x)) in
    omega (arith, b)
gathered_last p (suc k) x =
    let e : x + 1 + k ≡ x + suc k = omega arith in
    let same : bool_byte (p (x + 1 + k)) ≡ bool_byte (p (x + suc k)) = ap (λ y. bool_byte (p y)) e in
    let twice : bool_byte (p (x + suc k)) * 2 ^ suc k ≡ 2 * (bool_byte (p (x + suc k)) * 2 ^ k) = grind (arith, pow-succ' 2 k) in
    omega (arith, gathered_last p k (x + 1), ap (λ b. b * 2 ^ k) same, twice)

small : (b : Bool) (x : ℕ) → x < 32 → bool_byte b * 2 ^ x < 2 ^ 32
small true x h =
    let few : x ≤ 31 = omega arith in
    let most : 2 ^ x ≤ 2 ^ 31 = pow_mono few in
    omega (arith, most)
small false x h = omega arith

-- the bit of element x, above those of the elements before it
pub mask_more : (p : ℕ → Bool) (x : ℕ) → x < 32 → bit_or (mask_of p x) (bool_byte (p x) * 2 ^ x % 2 ^ 32) ≡ mask_of p (x + 1)
mask_more p x h =
    let e : bool_byte (p x) * 2 ^ x % 2 ^ 32 ≡ bool_byte (p x) * 2 ^ x = omega (arith, small (p x) x h) in
    let next : x + 1 ≡ suc x = omega arith in
    let first : 0 + x ≡ x = omega arith in
    ap (bit_or (mask_of p x)) e ∙ or_shifted_r (bool_byte (p x)) x (mask_of p x) (gathered_below p x 0)
    ∙ ap (λ y. bool_byte (p y) * 2 ^ x + mask_of p x) (sym first) ∙ sym (gathered_last p x 0) ∙ ap (mask_of p) (sym next)
