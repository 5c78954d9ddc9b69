use Rattle.std.proofs.Common.{◌≡◌}
use Rattle.repeats.specs.Copies.{copied_entries}
use Rattle.repeats.proofs.copy.copy_entries.Given as goal

abbrev pub invariant-loop-j : goal.invariant-loop-j
invariant-loop-j g l = g.W.ReadableBook.meaning l.copy ≡ copied_entries (g.B.ReadableBook.meaning l.book) l.j
