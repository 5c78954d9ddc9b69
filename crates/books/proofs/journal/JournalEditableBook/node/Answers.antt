use Rattle.std.proofs.Common.{vec_items, ap, ◌∙◌}
use Rattle.logic.specs.Books.{empty, with_node}
use Rattle.books.specs.Replay.{replay}
use Rattle.books.proofs.Replays.{replay-push}
use Rattle.books.proofs.Keeping.{kept, kept_node}
use Rattle.books.proofs.journal.JournalEditableBook.node.Goals as goal

pub append-requires : goal.append-requires
append-requires c =
    let h = c.in_ok-node.ensures.offered in
    kept_node (kept c.args.self.now) c.args.raw _ h.0 h.1 h.2

pub returns : goal.returns
returns c =
    let s = c.args.self.now in
    let h = c.in_ok-node.ensures in
    let grown = replay-push (vec_items s.records) _ _ c.append.ensures ∙ ap (with_node (replay empty (vec_items s.records))) h.offered.1 in
    record { answer = (h.offered.0, s.counted_nodes, grown); exact = h.exact }
