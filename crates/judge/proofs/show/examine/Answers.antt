use Rattle.std.proofs.Common.{sym, ◌∙◌}
use Rattle.judge.proofs.ShowView.{examined}
use Rattle.judge.proofs.show.examine.Goals as goal

pub returns-clause-answer : goal.returns-clause-answer
returns-clause-answer g c =
    let v = c.in_ok-view.view in
    let read = c.in_ok-view.ensures.answer in
    examined (g.B.ReadableBook.meaning c.args.book.now) v (g.O.Order.meaning c.args.order.now) c.fill.new.list c.args.bytes.now read.0 read.1 (g.O.Order.strict c.args.order.now)
    (sym c.size-size.ensures ∙ c.if-size.false ∙ c.size.ensures) c.in_ok-fill.ensures c.first_false-lowest_false.result c.first_false-lowest_false.ensures.found
