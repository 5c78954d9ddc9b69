use Rattle.std.proofs.Common.{rules, true, false}
use borrow.Author.Tests.{tests}
use Rattle.std.proofs.lemmas.Iterator.{first_from_Range}
use Rattle.models.specs.Views.{view_meaning}
use Rattle.judge.proofs.ShowEntries.{IsFailingAt, lowest, finds}
use Rattle.judge.proofs.show.first_false.Goals as goal

pub returns : goal.returns
returns g c =
    let bk = g.B.ReadableBook.meaning c.args.book.now in
    let i = view_meaning c.args.view.now in
    let list = c.args.list.now in
    let first = lowest bk i list _ c.find.result c.entry_count.ensures
    (first_from_Range _ _ _ c.find.result (λ k. IsFailingAt bk i list true k) (λ k. IsFailingAt bk i list false k) c.find.ensures.ran (λ x q k. search (rules, tests)) (λ x q k. search (rules, tests))) in
    record { lowest = first; found = finds bk i list c.find.result first }
