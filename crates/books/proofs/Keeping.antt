-- The records, their number and both counts of a journal stay consistent over its calls. Assumes nothing.
use Rattle.std.proofs.Common.{◌≡◌, ℕ, ◌+◌, ◌≤◌, true, List, [], ◌∷◌, ◌++◌, length, vec_items, vec_len, sym, refl, ap, ◌∙◌, subst, arith}
use Rattle.std.proofs.lemmas.List.{length_push, length-set, append-nil}
use Rattle.logic.specs.declared.records.RawNode.{RawNode}
use Rattle.logic.specs.declared.records.Entry.{Entry}
use Rattle.logic.specs.declared.records.RawEntry.{RawEntry}
use Rattle.logic.specs.declared.records.StoredEntry.{StoredEntry}
use Rattle.logic.specs.Written.{node_of, entry_of}
use Rattle.logic.specs.Concepts.{read, concepts, plain, plain_marks}
use Rattle.logic.specs.Books.{Book, empty, stored_at, struck, with_node, with_entry, with_strike}
use Rattle.logic.specs.Lawful.{Lawful}
use Rattle.logic.specs.Refusals.{node_refusal, entry_refusal}
use Rattle.logic.proofs.Deciding.{lawful_known}
use Rattle.logic.proofs.Lawfulness.{lawful_empty, lawful_with_strike}
use Rattle.logic.proofs.Refusing.{node_granted, entry_granted}
use Rattle.books.specs.declared.journal.Journal.{Journal}
use Rattle.books.specs.declared.journal_record.Record.{Record}
use Rattle.books.specs.declared.journal_record.Record.TheVariants as records
use Rattle.books.specs.declared.marked.MarkedNode.{MarkedNode}
use Rattle.books.specs.Marks.{marks_of_nodes}
use Rattle.books.specs.Replay.{replay, recorded_nodes, struck_count, Consistent}
use Rattle.books.proofs.Changes.{marks_more}
use Rattle.books.proofs.Replays.{replay_on, marks_push, struck_count_le, struck_count-push, struck_count-set}

-- the fields of every journal are consistent
pub kept : (j : Journal) → Consistent (vec_items j.records) (vec_len j.records) j.nodes j.entries
kept j =
    record {
      counted_nodes = j.counted_nodes;
      counted_entries = j.counted_entries;
      counted = j.counted;
      few_nodes = j.few_nodes;
      few_entries = j.few_entries;
      marked = j.marked;
      lawful = lawful_known _ j.lawful;
    }

-- there are never more records than the memory that is reserved has room for
pub room : {rs : List Record} {len nodes entries : ℕ} → Consistent rs len nodes entries → len ≤ 1024
room {rs} k = omega (arith, struck_count_le (replay empty rs).entries, k.counted, k.counted_entries, k.few_nodes, k.few_entries)

-- records that mean a lawful book of these counts and marks
kept_by : (rs : List Record) (len nodes entries : ℕ) (bk : Book) → replay empty rs ≡ bk → Lawful bk → nodes ≡ length bk.nodes → entries ≡ length bk.entries → len ≡ nodes + entries + struck_count bk.entries → marks_of_nodes (recorded_nodes rs) ≡ plain_marks bk.nodes → Consistent rs len nodes entries
kept_by rs len nodes entries bk is lawful ns ls all marks_of_nodes =
    record {
      counted_nodes = rw is ns;
      counted_entries = rw is ls;
      counted = rw is all;
      few_nodes = omega (arith, ns, lawful.well_formed.few_nodes);
      few_entries = omega (arith, ls, lawful.well_formed.few_entries);
      marked = rw is marks_of_nodes;
      lawful = rw is lawful;
    }

-- the same at equal records and numbers
pub kept_at : {rs rs' : List Record} {len len' nodes entries : ℕ} → rs' ≡ rs → len' ≡ len → Consistent rs len nodes entries → Consistent rs' len' nodes entries
kept_at {rs} {rs'} {len} {len'} {nodes} {entries} same as-many k =
    subst (λ xs. Consistent xs len' nodes entries) (sym same) (subst (λ n. Consistent rs n nodes entries) (sym as-many) k)

-- no records yet
pub kept_new : (rs : List Record) (len : ℕ) → rs ≡ [] → len ≡ 0 → Consistent rs len 0 0
kept_new rs len none zero = kept_by rs len 0 0 empty (ap (replay empty) none) lawful_empty refl refl zero (ap (λ xs. marks_of_nodes (recorded_nodes xs)) none)

-- after one more record
module _ {rs : List Record} {len nodes entries : ℕ} (k : Consistent rs len nodes entries) where
  -- of a node that was granted, with its mark
  pub kept_node : (raw : RawNode) (m : MarkedNode) → node_refusal (replay empty rs) raw ≡ 0 → m.node ≡ node_of raw → m.plain ≡ plain (read (concepts (replay empty rs).nodes) m.node) → Consistent (rs ++ records.Node m ∷ []) (len + 1) (nodes + 1) entries
  kept_node raw m granted is mark =
      let bk = replay empty rs in
      let r = records.Node m in
      let counted : nodes + 1 ≡ length (bk.nodes ++ node_of raw ∷ []) = omega (arith, length_push bk.nodes (node_of raw), k.counted_nodes) in
      let marked = marks_more bk.nodes _ (marks_of_nodes (recorded_nodes rs)) _ m.node m.plain k.marked (ap (λ x. bk.nodes ++ x ∷ []) (sym is)) (marks_push rs r) mark in
      kept_by _ (len + 1) (nodes + 1) entries (with_node bk (node_of raw)) (replay_on empty rs r ∙ ap (with_node bk) is) ((node_granted bk raw granted).1 k.lawful) counted k.counted_entries (omega (arith, k.counted)) marked

  -- a record that is no node leaves the marks as they were
  same_marks : (r : Record) → marks_of_nodes (recorded_nodes (r ∷ [])) ≡ [] → marks_of_nodes (recorded_nodes (rs ++ r ∷ [])) ≡ plain_marks (replay empty rs).nodes
  same_marks r none = marks_push rs r ∙ ap (λ ms. marks_of_nodes (recorded_nodes rs) ++ ms) none ∙ append-nil (marks_of_nodes (recorded_nodes rs)) ∙ k.marked

  -- of an entry that was granted
  pub kept_entry : (raw : RawEntry) (x : Entry) → entry_refusal (replay empty rs) raw ≡ 0 → x ≡ entry_of raw → Consistent (rs ++ records.Entry x ∷ []) (len + 1) nodes (entries + 1)
  kept_entry raw x granted is =
      let bk = replay empty rs in
      let r = records.Entry x in
      let l : StoredEntry = record { entry = entry_of raw; live = true } in
      let counted : entries + 1 ≡ length (bk.entries ++ l ∷ []) = omega (arith, length_push bk.entries l, k.counted_entries) in
      kept_by _ (len + 1) nodes (entries + 1) (with_entry bk (entry_of raw)) (replay_on empty rs r ∙ ap (with_entry bk) is) ((entry_granted bk raw granted).1 k.lawful) k.counted_nodes counted (omega (arith, k.counted, struck_count-push bk.entries l refl)) (same_marks r refl)

  -- of a strike of a live entry
  pub kept_strike : (i : ℕ) → (stored_at (replay empty rs) i).live ≡ true → Consistent (rs ++ records.Strike i ∷ []) (len + 1) nodes entries
  kept_strike i live =
      let bk = replay empty rs in
      let r = records.Strike i in
      kept_by _ (len + 1) nodes entries (with_strike bk i) (replay_on empty rs r) (lawful_with_strike bk k.lawful i) k.counted_nodes (k.counted_entries ∙ sym (length-set bk.entries i (struck (stored_at bk i)))) (omega (arith, k.counted, struck_count-set bk.entries i live)) (same_marks r refl)
