use Rattle.std.proofs.Common.{get_or, vec_items, sym, ap, ◌∙◌}
use Rattle.std.proofs.Math.ListN.{get_or-map}
use Rattle.logic.specs.declared.records.Node.TheVariants.{Absent}
use Rattle.books.specs.Marks.{no_node}
use Rattle.books.specs.Replay.{recorded_nodes}
use Rattle.books.proofs.Replays.{replay_nodes}
use Rattle.books.proofs.journal.JournalReadableBook.node_at.Goals as goal

pub returns : goal.returns
returns c =
    let rs = vec_items c.args.self.now.records in
    let i = c.args.i in
    ap (λ m. m.node) (c.node_record.ensures ∙ ap (λ xs. get_or (recorded_nodes xs) i no_node) c.deref.ensures.value) ∙ sym (get_or-map (λ m. m.node) (recorded_nodes rs) i no_node) ∙ ap (λ ns. get_or ns i Absent) (replay_nodes rs)
