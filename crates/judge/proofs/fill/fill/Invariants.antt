use Rattle.models.specs.Views.{view_meaning}
use Rattle.judge.proofs.ShowFill.{FilledTo}
use Rattle.judge.proofs.fill.fill.Given as goal

abbrev pub invariant-loop-i : goal.invariant-loop-i
invariant-loop-i g l = FilledTo (g.B.ReadableBook.meaning l.book) (g.B.ReadableBook.lawful l.book).well_formed (view_meaning l.view) (g.O.Order.meaning l.order) l.i l.list
