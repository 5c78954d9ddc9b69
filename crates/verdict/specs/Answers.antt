-- What `line` and its steps answer.
-- Appends: bytes were written at a cursor. LineAnswer: what `line` answers.
-- Assumes nothing.
use Rattle.std.specs.Prelude.{◌≡◌, ℕ, ◌+◌, ◌<◌, ◌≤◌, List, ◌++◌, length, take, drop, Ok, Err, Result}
use Rattle.logic.specs.declared.refusal.BadLength.{BadLength}
use Rattle.logic.specs.Lengths.{bad_length_number, bad_length_place}
use Rattle.verdict.specs.declared.Verdict.{Verdict}
use Rattle.verdict.specs.declared.line.Cursor.{Cursor}
use Rattle.verdict.specs.Lines.{line_of, line_limit}

-- The bytes were written at the cursor, which moved past them. The rest of the buffer is unchanged.
pub record Appends (bytes : List ℕ) (c c' : Cursor) : Type 0 where
  pub same_reference : c'.out.ghost_name ≡ c.out.ghost_name
  pub end_is : c'.at ≡ c.at + length bytes
  pub out_is : c'.out.now ≡ take c.at c.out.now ++ (bytes ++ drop (c.at + length bytes) c.out.now)

-- Ok: the buffer has room for every line (33 bytes). It begins with the line, n is the line's length, and the rest is
-- unchanged. Err: the buffer is shorter; the fault has number 20 and the buffer's length, and nothing changed.
abbrev pub LineAnswer : Verdict → List ℕ → List ℕ → Result ℕ (BadLength 20) → Type 0
LineAnswer v out out' (Ok n) =
    (line_limit ≤ length out) × (n ≡ length (line_of v)) × (out' ≡ line_of v ++ drop n out)
LineAnswer v out out' (Err f) =
    (length out < line_limit) × (bad_length_number f ≡ 20) × (bad_length_place f ≡ length out)
    × (out' ≡ out)
