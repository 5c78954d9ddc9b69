use Rattle.std.proofs.Common.{◌≡◌, Err, rules}
use Rattle.judge.proofs.ShowView.{refused, at_entry, at_model}
use Rattle.judge.proofs.ShowExact.{promised}
use Rattle.judge.proofs.show.show.Goals as goal

pub returns-in_err-view : goal.returns-in_err-view
returns-in_err-view g c =
    let bs = c.args.bytes.now in
    let bk = g.B.ReadableBook.meaning c.args.book.now in
    let o = g.O.Order.meaning c.args.order.now in
    let f = c.in_err-view.field-0.0 in
    let fault : c.from_residual.result ≡ Err f = search rules in
    rw fault
    (promised bk bs o c.examine.new.list (g.B.ReadableBook.lawful c.args.book.now).well_formed (Err f) _ c.examine.ensures.long (refused bk bs o c.examine.new.list f c.in_err-view.ensures.answer))

pub returns-in-Some : goal.returns-in-Some
returns-in-Some g c =
    let bs = c.args.bytes.now in
    let bk = g.B.ReadableBook.meaning c.args.book.now in
    let o = g.O.Order.meaning c.args.order.now in
    let list = c.examine.new.list in
    promised bk bs o list (g.B.ReadableBook.lawful c.args.book.now).well_formed _ _ c.examine.ensures.long
    (at_entry bk bs o list c.in_ok-view.field-0 c.in_ok-view.ensures.answer c.in-Some.i c.in-Some.is)

pub returns-in-None : goal.returns-in-None
returns-in-None g c =
    let bs = c.args.bytes.now in
    let bk = g.B.ReadableBook.meaning c.args.book.now in
    let o = g.O.Order.meaning c.args.order.now in
    let list = c.examine.new.list in
    promised bk bs o list (g.B.ReadableBook.lawful c.args.book.now).well_formed _ _ c.examine.ensures.long
    (at_model bk bs o list c.in_ok-view.field-0 c.in_ok-view.ensures.answer c.in-None.is c.size.result c.size.ensures)
