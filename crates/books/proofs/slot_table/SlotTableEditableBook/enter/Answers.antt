use Rattle.std.proofs.Common.{◌≤◌, true, vec_items, vec_len, sym, subst, arith}
use Rattle.logic.specs.declared.records.StoredEntry.{StoredEntry}
use Rattle.logic.specs.Written.{entry_of}
use Rattle.logic.specs.Books.{Book}
use Rattle.logic.specs.Lawful.{Lawful}
use Rattle.logic.proofs.Deciding.{lawful_known}
use Rattle.logic.proofs.Refusing.{entry_granted}
use Rattle.std.proofs.lemmas.List.{length_push}
use Rattle.books.specs.Marks.{nodes_of}
use Rattle.books.proofs.Changes.{with_entry_is}
use Rattle.books.proofs.slot_table.SlotTableEditableBook.enter.Goals as goal

pub invariant_of-self : goal.invariant_of-self
invariant_of-self c =
    let s = c.args.self.now in
    let bk : Book = record { nodes = nodes_of (vec_items s.nodes); entries = vec_items s.entries } in
    let h = c.in_ok-entry.ensures.offered in
    let lawful = (entry_granted bk c.args.raw h.0).1 (lawful_known bk s.lawful) in
    let grown = with_entry_is (nodes_of (vec_items s.nodes)) (vec_items s.entries) (vec_items c.push_reserved.new.self) _ _ _ c.push_reserved.ensures.items c.taken.ensures h.1 in
    let l : StoredEntry = record { entry = entry_of c.args.raw; live = true } in
    let few : vec_len c.push_reserved.new.self ≤ 256 = omega (arith, lawful.well_formed.few_entries, length_push (vec_items s.entries) l, s.entries.ok.0) in
    record {
      node_room = s.node_room;
      entry_room = omega (arith, s.entry_room);
      few_nodes = s.few_nodes;
      few_entries = few;
      marked = s.marked;
      lawful = ∣ subst Lawful (sym grown) lawful ∣₁;
    }

pub returns : goal.returns
returns c =
    let s = c.args.self.now in
    let bk : Book = record { nodes = nodes_of (vec_items s.nodes); entries = vec_items s.entries } in
    let h = c.in_ok-entry.ensures.offered in
    let grown = with_entry_is (nodes_of (vec_items s.nodes)) (vec_items s.entries) (vec_items c.push_reserved.new.self) _ _ _ c.push_reserved.ensures.items c.taken.ensures h.1 in
    record { answer = (h.0, c.entry_count-count.ensures, grown); exact = c.in_ok-entry.ensures.exact }
