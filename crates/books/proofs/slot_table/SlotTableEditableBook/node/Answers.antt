use Rattle.std.proofs.Common.{vec_items, sym, subst, arith}
use Rattle.std.proofs.lemmas.List.{length_push, length-map}
use Rattle.logic.specs.Written.{node_of}
use Rattle.logic.specs.Books.{Book}
use Rattle.logic.specs.Lawful.{Lawful}
use Rattle.logic.proofs.Deciding.{lawful_known}
use Rattle.logic.proofs.Refusing.{node_granted}
use Rattle.books.specs.Marks.{nodes_of}
use Rattle.books.proofs.Changes.{with_node_is, bare_more, marked_more}
use Rattle.books.proofs.slot_table.SlotTableEditableBook.node.Goals as goal

pub invariant_of-self : goal.invariant_of-self
invariant_of-self c =
    let s = c.args.self.now in
    let ms = vec_items s.nodes in
    let bk : Book = record { nodes = nodes_of ms; entries = vec_items s.entries } in
    let h = c.in_ok-node.ensures.offered in
    let lawful = (node_granted bk c.args.raw h.0).1 (lawful_known bk s.lawful) in
    let more = c.push_reserved.ensures in
    let nodes = bare_more ms _ c.in_ok-node.node more.items in
    let grown = with_node_is (nodes_of ms) (nodes_of (vec_items c.push_reserved.new.self)) (vec_items s.entries) _ _ nodes h.1 in
    record {
      node_room = omega (arith, s.node_room);
      entry_room = s.entry_room;
      few_nodes = omega (arith, lawful.well_formed.few_nodes, length_push (nodes_of ms) (node_of c.args.raw), length-map ms (λ m. m.node), s.nodes.ok.0);
      few_entries = s.few_entries;
      marked = marked_more ms _ c.in_ok-node.node more.items s.marked h.2;
      lawful = ∣ subst Lawful (sym grown) lawful ∣₁;
    }

pub returns : goal.returns
returns c =
    let s = c.args.self.now in
    let ms = vec_items s.nodes in
    let bk : Book = record { nodes = nodes_of ms; entries = vec_items s.entries } in
    let h = c.in_ok-node.ensures.offered in
    let grown = with_node_is (nodes_of ms) (nodes_of (vec_items c.push_reserved.new.self)) (vec_items s.entries) _ _ (bare_more ms _ c.in_ok-node.node c.push_reserved.ensures.items) h.1 in
    record { answer = (h.0, c.node_count-count.ensures, grown); exact = c.in_ok-node.ensures.exact }
