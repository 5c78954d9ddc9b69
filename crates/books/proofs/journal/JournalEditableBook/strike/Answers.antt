use Rattle.std.proofs.Common.{rules}
use Rattle.books.proofs.Replays.{replay-push}
use Rattle.books.proofs.Keeping.{kept, kept_strike}
use Rattle.books.proofs.journal.JournalEditableBook.strike.Goals as goal

pub append-requires : goal.append-requires
append-requires c = kept_strike (kept c.args.self.now) c.args.i (search rules)

pub returns : goal.returns
returns c = (search rules, replay-push _ _ _ c.append.ensures)
