use Rattle.std.proofs.Common.{◌≡◌}
use Rattle.repeats.specs.Copies.{copied_nodes}
use Rattle.repeats.proofs.copy.copy_nodes.Given as goal

abbrev pub invariant-loop-i : goal.invariant-loop-i
invariant-loop-i g l = g.W.ReadableBook.meaning l.copy ≡ copied_nodes (g.B.ReadableBook.meaning l.book) l.i
