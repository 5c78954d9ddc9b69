use Rattle.std.proofs.Common.{true, get_or, vec_items, sym, ap, ◌∙◌}
use Rattle.std.proofs.Math.ListN.{get_or-map}
use Rattle.logic.specs.Concepts.{concepts}
use Rattle.logic.proofs.Reading.{plain_mark_at}
use Rattle.books.specs.Marks.{nodes_of, no_node}
use Rattle.books.proofs.slot_table.SlotTableMarkedBook.plain_at.Goals as goal

pub returns : goal.returns
returns c =
    let s = c.args.self.now in
    let ms = vec_items s.nodes in
    ap (λ m. m.plain) (c.item_or.ensures ∙ ap (λ xs. get_or xs c.args.i no_node) c.deref.ensures.value) ∙ sym (get_or-map (λ m. m.plain) ms c.args.i no_node) ∙ ap (λ marks. get_or marks c.args.i true) s.marked ∙ plain_mark_at (concepts (nodes_of ms)) c.args.i
