-- Theorems about the lines.
-- Digit: the code of a digit. value_of_digits: the number that digits write. ReadsAs: bytes read as a number, in
-- decimal. Of32Bits: the numbers of a verdict have 32 bits. DecimalsRead, LinesFit: the theorems.
-- Assumes nothing.
use Rattle.std.specs.Prelude.{◌≡◌, ℕ, ◌+◌, ◌-◌, ◌*◌, ◌^◌, ◌<◌, ◌≤◌, ◌⊎◌, List, [], ◌∷◌, length, codes, slice_index}
use Rattle.std.specs.List.{AllByRecursion}
use Rattle.verdict.specs.declared.Verdict.{Verdict}
use Rattle.verdict.specs.declared.Verdict.TheVariants.{Closed, Satisfied, Refused}
use Rattle.verdict.specs.Lines.{decimal, line_of, line_limit}

-- the code of one of the digits 0 to 9
abbrev pub Digit : ℕ → Type 0
Digit b = (48 ≤ b) × (b ≤ 57)

-- the number that digits write, read from the left; n is the number that was read so far
abbrev pub value_of_digits : ℕ → List ℕ → ℕ
value_of_digits n [] = n
value_of_digits n (b ∷ bs) = value_of_digits (n * 10 + (b - 48)) bs

-- The bytes are the decimal of n: digits without leading zeros that read as n.
pub record ReadsAs (n : ℕ) (bs : List ℕ) : Type 0 where
  pub digits : AllByRecursion Digit bs
  pub leading : (bs ≡ codes "0") ⊎ (48 < slice_index bs 0)
  pub value : value_of_digits 0 bs ≡ n

-- The decimal of each number reads as that number. Bytes that read as a number of 32 bits are its decimal.
pub record DecimalsRead : Type 0 where
  pub reads : (n : ℕ) → ReadsAs n (decimal n)
  pub only : (n : ℕ) (bs : List ℕ) → n < 2 ^ 32 → ReadsAs n bs → bs ≡ decimal n

-- the numbers have 32 bits
abbrev pub Of32Bits : Verdict → Type 0
Of32Bits (Closed entries) = entries < 2 ^ 32
Of32Bits (Satisfied elements) = elements < 2 ^ 32
Of32Bits (Refused number place) = (number < 2 ^ 32) × (place < 2 ^ 32)

-- No line has more than 33 bytes, and some line has 33.
pub record LinesFit : Type 0 where
  pub short : (v : Verdict) → Of32Bits v → length (line_of v) ≤ line_limit
  pub longest : length (line_of (Refused 4294967295 4294967295)) ≡ line_limit
