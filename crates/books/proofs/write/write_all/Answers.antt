use Rattle.std.proofs.Common.{refl, subst}
use Rattle.std.proofs.lemmas.List.{take_all}
use Rattle.std.proofs.lemmas.Result.{err_from_is_err_and}
use Rattle.books.specs.Writing.{ListGranted}
use Rattle.books.proofs.Appending.{written_more, list_refused}
use Rattle.books.proofs.write.write_all.Goals as goal

pub loop-raw-init : goal.loop-raw-init
loop-raw-init g c = refl

pub returns-in_err-offer_to : goal.returns-in_err-offer_to
returns-in_err-offer_to g c =
    let p = err_from_is_err_and c.from_residual.result c.from_residual.ensures.1 in
    let h = c.in_err-offer_to.ensures in
    rw (p.1, p.2) (list_refused g.R.Offered.offer (g.B.ReadableBook.meaning c.args.book.now) (g.B.ReadableBook.meaning c.loop-raw.book) (g.B.ReadableBook.meaning c.offer_to.new.book) c.args.raws.now c.loop-raw.raw-index c.raw-item.result c.loop-raw-test.true c.loop-raw.invariant c.in_err-offer_to.field-0.0 (rw (← c.raw-item.is) h.0) h.1)

pub loop-raw-preserved : goal.loop-raw-preserved
loop-raw-preserved g c =
    let h = c.in_ok-offer_to.ensures in
    written_more g.R.Offered.offer (g.B.ReadableBook.meaning c.args.book.now) (g.B.ReadableBook.meaning c.loop-raw.book) (g.B.ReadableBook.meaning c.offer_to.new.book) c.args.raws.now c.loop-raw.raw-index c.raw-item.result c.loop-raw-test.true c.loop-raw.invariant (rw (← c.raw-item.is) h.0) (rw (← c.raw-item.is) h.2)

pub returns : goal.returns
returns g c =
    let raws = c.args.raws.now in
    subst (λ xs. ListGranted g.R.Offered.offer (g.B.ReadableBook.meaning c.args.book.now) xs (g.B.ReadableBook.meaning c.loop-raw.book)) (take_all c.loop-raw.raw-index raws c.loop-raw-test.false) c.loop-raw.invariant
