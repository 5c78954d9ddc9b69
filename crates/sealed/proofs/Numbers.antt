-- Bytes at an offset, and the numbers that they write. Assumes nothing.
use Rattle.std.proofs.Common.{◌≡◌, ℕ, zero, suc, ◌+◌, ◌*◌, ◌/◌, ◌%◌, ◌<◌, ◌≤◌, List, [], ◌∷◌, ◌++◌, map, length, take, drop, sym, refl, ap, ◌∙◌, arith}
use native.Mathlib.Nat.{mod-add-div}
use Rattle.std.specs.List.{range_with_len, flat_map}
use Rattle.std.proofs.lemmas.List.{get_or-drop, drop_more, length-append, drop_at, drop-drop}
use Rattle.logic.specs.Bytes.{byte, u16_at, u32_at}

-- the bytes that are written at an offset
pub byte_written : (bs xs : List ℕ) (from k j : ℕ) → from + k ≡ j → drop from bs ≡ xs → byte bs j ≡ byte xs k
byte_written bs xs from k j place is = ap (byte bs) (sym place) ∙ sym (get_or-drop from bs k 0) ∙ ap (λ ys. byte ys k) is

-- a 32-bit number by its two halves
pub u32_halves : (bs : List ℕ) (k : ℕ) → u32_at bs k ≡ u16_at bs k + 65536 * u16_at bs (k + 2)
u32_halves bs k =
    let place : k + 2 + 1 ≡ k + 3 = omega arith in
    let last = ap (byte bs) place in
    omega (arith, last)

-- a number by its two bytes, and its two bytes by the number
pub u16_from : (low high n : ℕ) → low ≡ n % 256 → high ≡ n / 256 → low + 256 * high ≡ n
u16_from low high n l h = (λ i. l i + 256 * h i) ∙ mod-add-div n 256

pub low_byte : (low high : ℕ) → low < 256 → (low + 256 * high) % 256 ≡ low
low_byte low high h = omega arith

pub high_byte : (low high : ℕ) → low < 256 → (low + 256 * high) / 256 ≡ high
high_byte low high h = omega arith

-- n bytes from an offset on, one by one
pub bytes_from : (bs : List ℕ) (from n : ℕ) → from + n ≤ length bs → take n (drop from bs) ≡ map (byte bs) (range_with_len from n)
bytes_from bs from zero h = refl
bytes_from bs from (suc n) h =
    ap (take (suc n)) (drop_more bs from 0 (omega arith)) ∙ ap (λ xs. byte bs from ∷ xs) (bytes_from bs (from + 1) n (omega arith))

-- the writings of equally long records, one after the other
module _ {X : Type 0} (f : X → List ℕ) (size : ℕ) (sized : (x : X) → length (f x) ≡ size) where
  pub length_joined : (xs : List X) → length (flat_map f xs) ≡ size * length xs
  length_joined [] = omega arith
  length_joined (x ∷ xs) = length-append (f x) (flat_map f xs) ∙ omega (arith, sized x, length_joined xs)

  -- what follows the first i of them
  pub drop_joined : (xs : List X) (i : ℕ) → i ≤ length xs → drop (size * i) (flat_map f xs) ≡ flat_map f (drop i xs)
  drop_joined xs zero h = let none : size * zero ≡ zero = omega arith in ap (λ k. drop k (flat_map f xs)) none
  drop_joined [] (suc i) h = absurd (omega arith)
  drop_joined (x ∷ xs) (suc i) h =
      let more : size * suc i ≡ size + size * i = omega arith in
      ap (λ k. drop k (f x ++ flat_map f xs)) more ∙ sym (drop-drop (size * i) size (f x ++ flat_map f xs)) ∙ ap (drop (size * i)) (drop_at (f x) (flat_map f xs) size (sized x)) ∙ drop_joined xs i (omega arith)
