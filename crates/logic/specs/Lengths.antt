-- A refused length: its number and its place.
-- Assumes nothing.
use Rattle.std.specs.Prelude.{ℕ}
use Rattle.logic.specs.declared.refusal.BadLength.{BadLength}

-- the number is that of the type
abbrev pub bad_length_number : {n : ℕ} → BadLength n → ℕ
bad_length_number {n} f = n

-- the place is the length
abbrev pub bad_length_place : {n : ℕ} → BadLength n → ℕ
bad_length_place f = f.0
