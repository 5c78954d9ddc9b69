-- The bits of masks. Assumes nothing.
use Rattle.std.proofs.Common.{◌≡◌, ℕ, zero, suc, ◌+◌, ◌-◌, ◌*◌, ◌/◌, ◌%◌, ◌^◌, ◌<◌, ◌≤◌, min, Bool, true, false, cond, not, ◌&&◌, ◌||◌, eqb, ltb, Decides, sym, refl, ap, ◌∙◌, inl, inr, zero-add, one-add, arith}
use native.Mathlib.Nat.{pow-succ'}
use lib.Dec.{leb-suc-suc, leb-zero, leb-suc-zero}
use lib.Bits.{bit_and, bit_or, bit_xor}
use Rattle.std.proofs.lemmas.Nat.{pow_pos, and_shr, or_shr, xor_shr, and_mod, or_mod, xor_mod, shr-shr}
use Rattle.std.proofs.lemmas.Bool.{cases_eq, both_ways, and_parts, and_from, or_left, not-true, not_from_false, eq-eqb, ne_eqb, eqb-false, le-ltb}
use Rattle.std.proofs.lemmas.Bool.Decides.{nat_tests}
use Rattle.orders.specs.Masks.{has, all_below, gathered, mask_of, meeting, Within, Includes}
use Rattle.orders.specs.Laws.{MaskHas}

pub has-zero : (y : ℕ) → has 0 y ≡ false
has-zero zero = refl
has-zero (suc y) = has-zero y

pub never : (b : Bool) → (b ≡ true → ⊥) → b ≡ false
never true h = absurd (h refl)
never false h = refl

-- bit y is what a shift by y leaves lowest
pub has_shift : (m y : ℕ) → has m y ≡ eqb (m / 2 ^ y % 2) 1
has_shift m zero = let e : m / 1 ≡ m = omega arith in ap (λ k. eqb (k % 2) 1) (sym e)
has_shift m (suc y) = has_shift (m / 2) y ∙ ap (λ k. eqb (k % 2) 1) (shr-shr m 1 y ∙ ap (λ k. m / 2 ^ k) (one-add y))

-- an operation on single bits, by its four cases
bitwise : (f : ℕ → ℕ → ℕ) (g : Bool → Bool → Bool) → eqb (f 0 0) 1 ≡ g false false → eqb (f 0 1) 1 ≡ g false true → eqb (f 1 0) 1 ≡ g true false → eqb (f 1 1) 1 ≡ g true true → (p q : ℕ) → p < 2 → q < 2 → eqb (f p q) 1 ≡ g (eqb p 1) (eqb q 1)
bitwise f g a b c d zero zero h k = a
bitwise f g a b c d zero (suc zero) h k = b
bitwise f g a b c d (suc zero) zero h k = c
bitwise f g a b c d (suc zero) (suc zero) h k = d
bitwise f g a b c d zero (suc (suc q)) h k = absurd (omega arith)
bitwise f g a b c d (suc zero) (suc (suc q)) h k = absurd (omega arith)
bitwise f g a b c d (suc (suc p)) q h k = absurd (omega arith)

pub has-or : (a b y : ℕ) → has (bit_or a b) y ≡ (has a y || has b y)
has-or a b zero = ap (λ m. eqb m 1) (or_mod a b 1) ∙ bitwise bit_or ◌||◌ refl refl refl refl (a % 2) (b % 2) (omega arith) (omega arith)
has-or a b (suc y) = ap (λ m. has m y) (or_shr a b 1) ∙ has-or (a / 2) (b / 2) y

pub has-and : (a b y : ℕ) → has (bit_and a b) y ≡ (has a y && has b y)
has-and a b zero = ap (λ m. eqb m 1) (and_mod a b 1) ∙ bitwise bit_and ◌&&◌ refl refl refl refl (a % 2) (b % 2) (omega arith) (omega arith)
has-and a b (suc y) = ap (λ m. has m y) (and_shr a b 1) ∙ has-and (a / 2) (b / 2) y

pub has-without : (a b y : ℕ) → has (bit_xor a (bit_and a b)) y ≡ (has a y && not (has b y))
has-without a b zero =
    ap (λ m. eqb m 1) (xor_mod a (bit_and a b) 1 ∙ ap (bit_xor (a % 2)) (and_mod a b 1)) ∙ bitwise (λ p q. bit_xor p (bit_and p q)) (λ p q. p && not q) refl refl refl refl (a % 2) (b % 2) (omega arith) (omega arith)
has-without a b (suc y) = ap (λ m. has m y) (xor_shr a (bit_and a b) 1 ∙ ap (bit_xor (a / 2)) (and_shr a b 1)) ∙ has-without (a / 2) (b / 2) y

-- the mask of all elements below n
has_full : (n y : ℕ) → has (2 ^ n - 1) y ≡ ltb y n
has_full zero y = has-zero y ∙ sym (le-ltb y 0 (omega arith))
has_full (suc n) zero =
    let odd : (2 ^ suc n - 1) % 2 ≡ 1 = omega (arith, pow-succ' 2 n, pow_pos n) in
    eq-eqb _ _ odd ∙ sym (leb-suc-suc 0 n ∙ leb-zero n)
has_full (suc n) (suc y) =
    let half : (2 ^ suc n - 1) / 2 ≡ 2 ^ n - 1 = omega (arith, pow-succ' 2 n, pow_pos n) in
    ap (λ m. has m y) half ∙ has_full n y ∙ sym (leb-suc-suc (suc y) n)

pub has-all_below : (n y : ℕ) → n ≤ 32 → has (all_below n) y ≡ ltb y n
has-all_below n y h = let e : min n 32 ≡ n = omega arith in ap (λ k. has (2 ^ k - 1) y) e ∙ has_full n y

-- masks with the same bits are the same
same_digit : (p q : ℕ) → p < 2 → q < 2 → eqb p 1 ≡ eqb q 1 → p ≡ q
same_digit p q h k e = grind (arith, nat_tests)

same_up_to : (k a b : ℕ) → a ≤ k → b ≤ k → ((y : ℕ) → has a y ≡ has b y) → a ≡ b
same_up_to zero a b h l f = omega arith
same_up_to (suc k) a b h l f =
    let high : a / 2 ≡ b / 2 = same_up_to k (a / 2) (b / 2) (omega arith) (omega arith) (λ y. f (suc y)) in
    let low = same_digit (a % 2) (b % 2) (omega arith) (omega arith) (f zero) in
    omega arith

pub same_bits : (a b : ℕ) → ((y : ℕ) → has a y ≡ has b y) → a ≡ b
same_bits a b f = same_up_to (a + b) a b (omega arith) (omega arith) f

-- a mask that is not 0 has an element
some_bit : (k m : ℕ) → m ≤ k → 0 < m → (y : ℕ) × (has m y ≡ true)
some_bit zero m l h = absurd (omega arith)
some_bit (suc k) m l h = elim (cases_eq (m % 2) 1) [
  | inl e ↦ (0, eq-eqb _ _ e)
  | inr e ↦ (let w = some_bit k (m / 2) (omega arith) (omega (arith, e)) in (suc w.0, w.1))
]

-- two sets meet exactly where they have an element in common
pub meeting_decides : (a b : ℕ) → Decides (meeting a b) ((y : ℕ) × (has a y ≡ true) × (has b y ≡ true))
meeting_decides a b = (
  λ h.
      let m = bit_and a b in
      let w = some_bit m m (omega arith) (omega (arith, eqb-false _ _ (not-true _ h))) in
      let p = and_parts _ _ (sym (has-and a b w.0) ∙ w.1) in
      (w.0, p.0, p.1),
  λ w. not_from_false _ (ne_eqb _ 0 (λ e. both_ways _ (ap (λ m. has m w.0) e ∙ has-zero w.0) (has-and a b w.0 ∙ and_from _ _ w.1 w.2))),
)

-- a mask has only elements below n exactly where it is below 2 ^ n
pub below_within : (n m : ℕ) → m < 2 ^ n → Within n m
below_within zero m h y t = let e : m ≡ 0 = omega arith in absurd (both_ways (has m y) (ap (λ k. has k y) e ∙ has-zero y) t)
below_within (suc n) m h zero t = omega arith
below_within (suc n) m h (suc y) t = let l = below_within n (m / 2) (omega (arith, pow-succ' 2 n)) y t in omega arith

pub within_below : (n m : ℕ) → Within n m → m < 2 ^ n
within_below zero m h = let e = same_bits m 0 (λ y. never (has m y) (λ t. omega (arith, h y t)) ∙ sym (has-zero y)) in omega arith
within_below (suc n) m h =
    let l = within_below n (m / 2) (λ y t. omega (arith, h (suc y) t)) in
    omega (arith, pow-succ' 2 n)

-- a set includes another exactly where it is the union of both
pub union_includes : (a b : ℕ) → bit_or b a ≡ a → Includes a b
union_includes a b e y h = sym (ap (λ m. has m y) e) ∙ has-or b a y ∙ or_left _ _ h

absorbed : (p q : Bool) → (p ≡ true → q ≡ true) → (p || q) ≡ q
absorbed true q h = sym (h refl)
absorbed false q h = refl

pub includes_union : (a b : ℕ) → Includes a b → bit_or b a ≡ a
includes_union a b h = same_bits (bit_or b a) a (λ y. has-or b a y ∙ absorbed (has b y) (has a y) (h y))

low_bit : (b : Bool) (m : ℕ) → eqb ((cond b 1 0 + 2 * m) % 2) 1 ≡ b
low_bit true m = let e : (1 + 2 * m) % 2 ≡ 1 = omega arith in rw e
low_bit false m = let e : (0 + 2 * m) % 2 ≡ 0 = omega arith in rw e

high_bits : (b : Bool) (m : ℕ) → (cond b 1 0 + 2 * m) / 2 ≡ m
high_bits true m = omega arith
high_bits false m = omega arith

has-gathered : (p : ℕ → Bool) (k x y : ℕ) → has (gathered p x k) y ≡ (ltb y k && p (x + y))
has-gathered p zero x y = has-zero y ∙ sym (ap (λ b. b && p (x + y)) (leb-suc-zero y))
has-gathered p (suc k) x zero =
    let e : x + 0 ≡ x = omega arith in
    low_bit (p x) (gathered p (x + 1) k) ∙ ap p (sym e) ∙ sym (ap (λ b. b && p (x + 0)) (leb-suc-suc 0 k ∙ leb-zero k))
has-gathered p (suc k) x (suc y) =
    let e : x + 1 + y ≡ x + suc y = omega arith in
    ap (λ m. has m y) (high_bits (p x) (gathered p (x + 1) k)) ∙ has-gathered p k (x + 1) y ∙ ap (λ z. ltb y k && p z) e
    ∙ sym (ap (λ b. b && p (x + suc y)) (leb-suc-suc (suc y) k))

pub mask_has : MaskHas
mask_has p n y = has-gathered p n 0 y ∙ ap (λ z. ltb y n && p z) (zero-add y)

one_more : (b : Bool) (m k n : ℕ) → m < k → n ≡ 2 * k → cond b 1 0 + 2 * m < n
one_more true m k n h e = omega arith
one_more false m k n h e = omega arith

pub gathered_below : (p : ℕ → Bool) (k x : ℕ) → gathered p x k < 2 ^ k
gathered_below p zero x = omega arith
gathered_below p (suc k) x = one_more (p x) (gathered p (x + 1) k) (2 ^ k) (2 ^ suc k) (gathered_below p k (x + 1)) (pow-succ' 2 k)

pub mask_below : (p : ℕ → Bool) (n : ℕ) → mask_of p n < 2 ^ n
mask_below p n = gathered_below p n 0
