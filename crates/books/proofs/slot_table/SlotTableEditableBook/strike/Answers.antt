use Rattle.std.proofs.Common.{vec_items, sym, subst, arith}
use Rattle.logic.specs.Books.{Book}
use Rattle.logic.specs.Lawful.{Lawful}
use Rattle.logic.proofs.Deciding.{lawful_known}
use Rattle.logic.proofs.Lawfulness.{lawful_with_strike}
use Rattle.books.specs.Marks.{nodes_of}
use Rattle.books.proofs.slot_table.SlotTableEditableBook.strike.Goals as goal

pub invariant_of-self : goal.invariant_of-self
invariant_of-self c =
    let s = c.args.self.now in
    let bk : Book = record { nodes = nodes_of (vec_items s.nodes); entries = vec_items s.entries } in
    let after = c.strike_entry.ensures in
    let lawful = subst (λ ls. Lawful (record { nodes = bk.nodes; entries = ls })) (sym after.items) (lawful_with_strike bk (lawful_known bk s.lawful) c.args.i) in
    record {
      node_room = s.node_room;
      entry_room = omega (arith, s.entry_room);
      few_nodes = s.few_nodes;
      few_entries = omega (arith, s.few_entries);
      marked = s.marked;
      lawful = ∣ lawful ∣₁;
    }
