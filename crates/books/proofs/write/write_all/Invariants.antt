use Rattle.std.proofs.Common.{take}
use Rattle.books.specs.Writing.{ListGranted}
use Rattle.books.proofs.write.write_all.Given as goal

abbrev pub invariant-loop-raw : goal.invariant-loop-raw
invariant-loop-raw g l = ListGranted g.R.Offered.offer (g.B.ReadableBook.meaning l.initial.book) (take l.raw-index l.raws) (g.B.ReadableBook.meaning l.book)
