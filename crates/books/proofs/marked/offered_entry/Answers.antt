use Rattle.std.proofs.Common.{rules}
use Rattle.books.specs.Marks.{EntryOffered}
use Rattle.books.proofs.Exact.{entry_exact}
use Rattle.books.proofs.marked.offered_entry.Goals as goal

pub returns-clause-exact : goal.returns-clause-exact
returns-clause-exact g c =
    let book = c.args.book.now in
    let offered : EntryOffered (g.B.ReadableBook.meaning book) c.args.raw c.judge_entry_offer.result = search rules in
    entry_exact (g.B.ReadableBook.meaning book) (g.B.ReadableBook.lawful book) c.args.raw c.judge_entry_offer.result offered
