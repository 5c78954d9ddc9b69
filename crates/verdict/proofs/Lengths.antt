-- The length of a line.
use Rattle.std.proofs.Common.{◌≡◌, ◌≤◌, length, sym, ap, arith, lit<, length-append}
use Rattle.std.specs.Fmt.{digits}
use Rattle.verdict.specs.declared.Verdict.{Verdict}
use Rattle.verdict.specs.declared.Verdict.TheVariants.{Closed, Satisfied, Refused}
use Rattle.verdict.specs.Laws.{Of32Bits, LinesFit}
use Rattle.verdict.specs.Lines.{decimal, line_of}
use Rattle.verdict.proofs.Decimals.{decimal_short, same}

-- no line has more than 33 bytes
short : (v : Verdict) → Of32Bits v → length (line_of v) ≤ 33
short (Closed n) h = simp length-append (omega (arith, decimal_short n h))
short (Satisfied n) h = simp length-append (omega (arith, decimal_short n h))
short (Refused n p) h = simp length-append (omega (arith, decimal_short n h.0, decimal_short p h.1))

-- the largest number has ten digits
ten : length (decimal 4294967295) ≡ 10
unfolding digits
ten = ap length (sym (same 4294967295 (lit< tt)))

-- this one has 33
longest : length (line_of (Refused 4294967295 4294967295)) ≡ 33
longest = simp length-append (omega (arith, ten))

pub lines_fit : LinesFit
lines_fit = record { short = short; longest = longest }
