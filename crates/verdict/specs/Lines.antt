-- The line of a verdict, as bytes of ASCII.
-- decimal: a number in decimal. text_of: the line without its line feed. line_of: the line. line_limit: the length of
-- the longest line.
-- digitsOf 10 n, of the standard library, has the decimal digits of n, the highest first, and none for 0.
-- Assumes nothing.
use Rattle.std.specs.Prelude.{ℕ, zero, suc, ◌+◌, List, [], ◌∷◌, ◌++◌, map, codes}
use Rattle.std.specs.Int.Digits.{digits_of}
use Rattle.verdict.specs.declared.Verdict.{Verdict}
use Rattle.verdict.specs.declared.Verdict.TheVariants.{Closed, Satisfied, Refused}

-- a number in decimal without leading zeros; the code of digit d is 48 + d
unfoldable pub decimal : ℕ → List ℕ
decimal zero = codes "0"
decimal (suc n) = map (λ d. 48 + d) (digits_of 10 (suc n))

-- the line without its line feed
abbrev pub text_of : Verdict → List ℕ
text_of (Closed entries) = codes "closed, entries used " ++ decimal entries
text_of (Satisfied elements) = codes "satisfied, elements " ++ decimal elements
text_of (Refused number place) = codes "refused " ++ decimal number ++ codes " at " ++ decimal place

-- the line, with a line feed at its end
abbrev pub line_of : Verdict → List ℕ
line_of v = text_of v ++ (10 ∷ [])

-- the longest line has 33 bytes
abbrev pub line_limit : ℕ
line_limit = 33
