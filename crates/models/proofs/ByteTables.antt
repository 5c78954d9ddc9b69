-- Tables of bytes, and numbers in them. Assumes nothing.
use Rattle.std.proofs.Common.{◌≡◌, ℕ, zero, suc, ◌+◌, ◌*◌, ◌/◌, ◌^◌, ◌<◌, List, length, get_or, refl, ap, arith}
use Rattle.std.specs.List.{AllByRecursion}
use Rattle.logic.specs.Bytes.{byte, u32_at}
use Rattle.models.specs.Encodings.{first_values, byte_of}

pub table_length : (n : ℕ) (f : ℕ → ℕ) → length (first_values n f) ≡ n
unfolding first_values
table_length zero f = refl
table_length (suc n) f = ap suc (table_length n (λ i. f (suc i)))

pub table_at : (n : ℕ) (f : ℕ → ℕ) (i : ℕ) → i < n → get_or (first_values n f) i 0 ≡ f i
unfolding first_values
table_at zero f i h = absurd (omega arith)
table_at (suc n) f zero h = refl
table_at (suc n) f (suc i) h = table_at n (λ i. f (suc i)) i (omega arith)

pub table_small : (n : ℕ) (f : ℕ → ℕ) → ((i : ℕ) → i < n → f i < 256) → AllByRecursion (λ b. b < 256) (first_values n f)
unfolding first_values
table_small zero f h = tt
table_small (suc n) f h = (h zero (omega arith), table_small n (λ i. f (suc i)) (λ i l. h (suc i) (omega arith)))

pub digit_small : (w j : ℕ) → byte_of w j < 256
digit_small w zero = omega arith
digit_small w (suc j) = digit_small (w / 256) j

-- four bytes that are the digits of a number are that number
pub word_of : (bs : List ℕ) (k w : ℕ) → w < 2 ^ 32 → byte bs k ≡ byte_of w 0 → byte bs (k + 1) ≡ byte_of w 1 → byte bs (k + 2) ≡ byte_of w 2 → byte bs (k + 3) ≡ byte_of w 3 → u32_at bs k ≡ w
word_of bs k w h a b c d =
    let e : byte_of w 0 + 256 * byte_of w 1 + 65536 * byte_of w 2 + 16777216 * byte_of w 3 ≡ w = omega arith in
    omega arith
