use Rattle.std.proofs.Common.{true, get_or, vec_items, sym, ap, ◌∙◌}
use Rattle.std.proofs.Math.ListN.{get_or-map}
use Rattle.logic.specs.Concepts.{concepts}
use Rattle.logic.specs.Books.{empty}
use Rattle.logic.proofs.Reading.{plain_mark_at}
use Rattle.books.specs.Marks.{no_node}
use Rattle.books.specs.Replay.{replay, recorded_nodes}
use Rattle.books.proofs.journal.JournalMarkedBook.plain_at.Goals as goal

pub returns : goal.returns
returns c =
    let s = c.args.self.now in
    let rs = vec_items s.records in
    let i = c.args.i in
    ap (λ m. m.plain) (c.node_record.ensures ∙ ap (λ xs. get_or (recorded_nodes xs) i no_node) c.deref.ensures.value) ∙ sym (get_or-map (λ m. m.plain) (recorded_nodes rs) i no_node) ∙ ap (λ marks. get_or marks i true) s.marked ∙ plain_mark_at (concepts (replay empty rs).nodes) i
