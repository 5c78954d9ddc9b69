use Rattle.std.proofs.Common.{arith}
use Rattle.books.proofs.Keeping.{kept, room}
use Rattle.books.proofs.journal.JournalReadableBook.entry_at.Goals as goal

pub stored_at-requires : goal.stored_at-requires
stored_at-requires c = omega (arith, c.deref.ensures.len, room (kept c.args.self.now))
