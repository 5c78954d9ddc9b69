-- What a call writes into its caller's buffer.
-- LineWritten: the line of a verdict was written, if the buffer has room for every line.
-- Assumes nothing.
use Rattle.std.specs.Prelude.{◌≡◌, ℕ, ◌<◌, ◌≤◌, List, ◌++◌, length, drop}
use Rattle.verdict.specs.declared.Verdict.{Verdict}
use Rattle.verdict.specs.Lines.{line_of, line_limit}

-- written: a buffer of 33 bytes or more begins with the line, the rest is unchanged, and n is the line's length;
-- short: a shorter buffer is unchanged, and n is 0
pub record LineWritten (v : Verdict) (out out' : List ℕ) (n : ℕ) : Type 0 where
  pub written : line_limit ≤ length out → (n ≡ length (line_of v)) × (out' ≡ line_of v ++ drop n out)
  pub short : length out < line_limit → (n ≡ 0) × (out' ≡ out)
