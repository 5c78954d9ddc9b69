use Rattle.std.proofs.Common.{◌≡◌, ◌≤◌, length, take}
use Rattle.logic.specs.Books.{empty, stored_at}
use Rattle.books.specs.Replay.{replay}
use Rattle.books.proofs.journal.stored_at.Given as goal

abbrev pub invariant-loop-record : goal.invariant-loop-record
invariant-loop-record l =
    (l.stored ≡ stored_at (replay empty (take l.record-index l.records)) l.i)
    × (l.seen ≡ length (replay empty (take l.record-index l.records)).entries)
    × (l.seen ≤ l.record-index)
