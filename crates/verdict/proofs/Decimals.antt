-- Decimals, and the standard library's.
use Rattle.std.proofs.Common.{decimal as written, ◌≡◌, ℕ, zero, suc, ◌+◌, ◌^◌, ◌<◌, ◌≤◌, length, arith}
use Rattle.std.proofs.lemmas.Fmt.{decimal_digit, decimal-digits_of, length-decimal-le}
use Rattle.verdict.specs.Lines.{decimal}

-- the code of a digit
abbrev pub code : ℕ → ℕ
code d = 48 + d

-- the standard library's decimal is the same
pub same : (n : ℕ) → n < 2 ^ 64 → written n ≡ decimal n
unfolding decimal
same zero h = decimal_digit 0 (omega arith)
same (suc n) h = decimal-digits_of (suc n) (omega arith) h

-- a number of 32 bits has at most ten digits
pub decimal_short : (n : ℕ) → n < 2 ^ 32 → length (decimal n) ≤ 10
decimal_short n h = rw (← same n (omega arith)) (length-decimal-le 10 n (omega arith) (omega arith) (omega arith))
