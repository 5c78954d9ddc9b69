use Rattle.std.proofs.Common.{◌≡◌, vec_items, sym, ◌∙◌, subst, arith}
use Rattle.logic.specs.Books.{Book, empty}
use Rattle.logic.specs.Lawful.{Lawful}
use Rattle.logic.specs.Concepts.{plain_marks}
use Rattle.logic.proofs.Lawfulness.{lawful_empty}
use Rattle.books.specs.Marks.{nodes_of, marks_of_nodes}
use Rattle.books.proofs.slot_table.SlotTableEditableBook.new.Goals as goal

pub invariant_of-result : goal.invariant_of-result
invariant_of-result c =
    let n = c.in_ok-nodes.ensures in
    let l = c.in_ok-entries.ensures in
    let made : Book = record { nodes = nodes_of (vec_items c.in_ok-nodes.nodes); entries = vec_items c.in_ok-entries.entries } in
    let is : empty ≡ made = sym (λ i. record { nodes = nodes_of (n.items i); entries = l.items i }) in
    record {
      node_room = n.capacity;
      entry_room = l.capacity;
      few_nodes = omega (arith, n.len);
      few_entries = omega (arith, l.len);
      marked = (λ i. marks_of_nodes (n.items i)) ∙ sym (λ i. plain_marks (nodes_of (n.items i)));
      lawful = ∣ subst Lawful is lawful_empty ∣₁;
    }
