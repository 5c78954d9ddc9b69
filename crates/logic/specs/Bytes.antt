-- Numbers in bytes, low byte first.
-- byte: the byte at an offset. u16_at, u32_at: the number from an offset on.
-- Assumes nothing.
use Rattle.std.specs.Prelude.{ℕ, ◌+◌, ◌*◌, List, slice_index}

-- byte k; 0 past the end
abbrev pub byte : List ℕ → ℕ → ℕ
byte bs k = slice_index bs k

-- the 16-bit number from byte k on
abbrev pub u16_at : List ℕ → ℕ → ℕ
u16_at bs k = byte bs k + 256 * byte bs (k + 1)

-- the 32-bit number from byte k on
abbrev pub u32_at : List ℕ → ℕ → ℕ
u32_at bs k = byte bs k + 256 * byte bs (k + 1) + 65536 * byte bs (k + 2) + 16777216 * byte bs (k + 3)
