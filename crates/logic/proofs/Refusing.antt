-- A record is granted exactly when the book can take it and stay lawful. Assumes nothing.
use Rattle.std.proofs.Common.{◌≡◌, ℕ, zero, suc, ◌+◌, Bool, true, false, cond, ◌&&◌, eqb, leb, [], ◌∷◌, ◌++◌, length, get_or, sym, refl, ap, ◌∙◌, subst, arith}
use Rattle.std.specs.List.{AllByRecursion}
use Rattle.std.proofs.lemmas.List.{length_push, get_or_push}
use Rattle.std.proofs.ByRecursion.{All-get_or}
use Rattle.std.proofs.lemmas.Bool.{and_parts, and_from, leb-false, lt-leb, eqb-true, eq-eqb}
use Rattle.std.proofs.lemmas.Bool.Decides.{nat_tests}
use Rattle.logic.specs.declared.records.Node.{Node}
use Rattle.logic.specs.declared.records.Node.TheVariants as node
use Rattle.logic.specs.declared.records.RawNode.{RawNode}
use Rattle.logic.specs.declared.records.Entry.{Entry}
use Rattle.logic.specs.declared.records.Entry.TheVariants as entry
use Rattle.logic.specs.declared.records.RawEntry.{RawEntry}
use Rattle.logic.specs.declared.records.StoredEntry.{StoredEntry}
use Rattle.logic.specs.Written.{node_kind, node_a, node_b, node_of, entry_kind, entry_a, entry_b, entry_c, entry_of, WritesNode, WritesEntry}
use Rattle.logic.specs.Concepts.{concepts}
use Rattle.logic.specs.Books.{Book, node_at, no_stored_entry, with_node, with_entry}
use Rattle.logic.specs.Lawful.{Lawful, is_node, node_within_limits, node_operands_below, node_well_formed, node_typicality_allowed, is_entry, entry_within_limits, entry_operands_below, entry_well_formed, entry_typicality_allowed}
use Rattle.logic.specs.Refusals.{first_unfit, node_unused_zero, node_refusal, entry_unused_zero, entry_refusal, NodeFits, EntryFits}
use Rattle.logic.proofs.Reading.{concepts_stay}
use Rattle.logic.proofs.Lawfulness.{node_parts, entry_parts, node_placed_alike, lawful_with_node, lawful_with_stored}

-- the limit, and four tests in a row
abbrev first_failed : Bool → Bool → Bool → Bool → Bool → ℕ
first_failed full known range there placed = cond full 1 (first_unfit known range there placed)

record Passed (full known range there placed : Bool) : Type 0 where
  room : full ≡ false
  is_known : known ≡ true
  in_range : range ≡ true
  is_there : there ≡ true
  is_placed : placed ≡ true

passed : (full known range there placed : Bool) → first_failed full known range there placed ≡ 0 → Passed full known range there placed
passed full known range there placed h =
    record { room = grind arith; is_known = grind arith; in_range = grind arith; is_there = grind arith; is_placed = grind arith }

all_passed : (full known range there placed : Bool) → Passed full known range there placed → first_failed full known range there placed ≡ 0
all_passed full known range there placed p = rw (p.room, p.is_known, p.in_range, p.is_there, p.is_placed)

-- The kind of a node that was read is the kind that it was read from.
node_kind_read : (kind a b : ℕ) → let raw : RawNode = record { kind = kind; a = a; b = b } in is_node (node_of raw) ≡ true → kind ≡ node_kind (node_of raw)
node_kind_read zero a b h = refl
node_kind_read (suc zero) a b h = refl
node_kind_read (suc (suc zero)) a b h = refl
node_kind_read (suc (suc (suc zero))) a b h = refl
node_kind_read (suc (suc (suc (suc zero)))) a b h = refl
node_kind_read (suc (suc (suc (suc (suc zero))))) a b h = refl
node_kind_read (suc (suc (suc (suc (suc (suc zero)))))) a b h = refl
node_kind_read (suc (suc (suc (suc (suc (suc (suc zero))))))) a b h = refl
node_kind_read (suc (suc (suc (suc (suc (suc (suc (suc zero)))))))) a b h = refl
node_kind_read (suc (suc (suc (suc (suc (suc (suc (suc (suc n))))))))) a b h = grind (arith, nat_tests)

entry_kind_read : (kind a b c : ℕ) → let raw : RawEntry = record { kind = kind; a = a; b = b; c = c } in is_entry (entry_of raw) ≡ true → kind ≡ entry_kind (entry_of raw)
entry_kind_read zero a b c h = grind (arith, nat_tests)
entry_kind_read (suc zero) a b c h = refl
entry_kind_read (suc (suc zero)) a b c h = refl
entry_kind_read (suc (suc (suc zero))) a b c h = refl
entry_kind_read (suc (suc (suc (suc n)))) a b c h = grind (arith, nat_tests)

-- a node is read from its own numbers
pub node_read : (n : Node) → is_node n ≡ true → (raw : RawNode) → WritesNode raw n → node_of raw ≡ n
node_read n known raw w = ap node_of same ∙ own n known
  where
    same : raw ≡ record { kind = node_kind n; a = node_a n; b = node_b n }
    same = λ i. record { kind = w.kind i; a = w.a i; b = w.b i }

    own : (m : Node) → is_node m ≡ true → node_of (record { kind = node_kind m; a = node_a m; b = node_b m }) ≡ m
    own node.Top h = refl
    own node.Bottom h = refl
    own (node.Name a) h = refl
    own (node.Not c) h = refl
    own (node.And c d) h = refl
    own (node.Or c d) h = refl
    own (node.All r c) h = refl
    own (node.Exists r c) h = refl
    own (node.Typical c) h = refl
    own node.Absent h = refl

pub entry_read : (e : Entry) → is_entry e ≡ true → (raw : RawEntry) → WritesEntry raw e → entry_of raw ≡ e
entry_read e known raw w = ap entry_of same ∙ own e known
  where
    same : raw ≡ record { kind = entry_kind e; a = entry_a e; b = entry_b e; c = entry_c e }
    same = λ i. record { kind = w.kind i; a = w.a i; b = w.b i; c = w.c i }

    own : (m : Entry) → is_entry m ≡ true → entry_of (record { kind = entry_kind m; a = entry_a m; b = entry_b m; c = entry_c m }) ≡ m
    own (entry.Inclusion c d) h = refl
    own (entry.Fact x c) h = refl
    own (entry.RoleFact r x y) h = refl
    own entry.Absent h = refl

module _ (bk : Book) (raw : RawNode) where
  -- a granted node was written as it reads, and the book stays lawful
  pub node_granted : node_refusal bk raw ≡ 0 → WritesNode raw (node_of raw) × (Lawful bk → Lawful (with_node bk (node_of raw)))
  node_granted h =
      let n = node_of raw in
      let count = length bk.nodes in
      let p = passed (leb 512 count) (is_node n) (node_within_limits n && node_unused_zero raw) (node_operands_below count n) (node_typicality_allowed (concepts bk.nodes) n) h in
      let q = and_parts (node_within_limits n) (node_unused_zero raw) p.in_range in
      let u = and_parts (eqb raw.a (node_a n)) (eqb raw.b (node_b n)) q.1 in
      let written : WritesNode raw n = record { kind = node_kind_read raw.kind raw.a raw.b p.is_known; a = eqb-true _ _ u.0; b = eqb-true _ _ u.1 } in
      (written, λ lawful. lawful_with_node bk lawful n (leb-false 512 count p.room) (and_from _ _ p.is_known (and_from _ _ q.0 p.is_there)) p.is_placed)

  -- a node with which the book is lawful is granted
  pub node_taken : NodeFits bk raw → node_refusal bk raw ≡ 0
  node_taken (n, w, lawful) =
      let ns = bk.nodes in
      let more : length (ns ++ n ∷ []) ≡ length ns + 1 = length_push ns n in
      let here : node_at (with_node bk n) (length ns) ≡ n = get_or_push ns n node.Absent (length ns) refl in
      let formed : node_well_formed (length ns) n ≡ true = rw here at (lawful.well_formed.nodes (length ns) (omega (arith, more))) in
      let parts = node_parts (length ns) n formed in
      let placed : node_typicality_allowed (concepts (ns ++ n ∷ [])) n ≡ true = rw here at (lawful.in_place.nodes (length ns) (omega (arith, more))) in
      let alike = node_placed_alike (length ns) (concepts (ns ++ n ∷ [])) (concepts ns) (concepts_stay ns (n ∷ [])) n parts.2 in
      let is : node_of raw ≡ n = node_read n parts.0 raw w in
      let zeros : (eqb raw.a (node_a n) && eqb raw.b (node_b n)) ≡ true = and_from _ _ (eq-eqb _ _ w.a) (eq-eqb _ _ w.b) in
      rw is (all_passed (leb 512 (length ns)) (is_node n) (node_within_limits n && (eqb raw.a (node_a n) && eqb raw.b (node_b n))) (node_operands_below (length ns) n) (node_typicality_allowed (concepts ns) n)
      (record { room = lt-leb 512 (length ns) (omega (arith, more, lawful.well_formed.few_nodes)); is_known = parts.0; in_range = and_from _ _ parts.1 zeros; is_there = parts.2; is_placed = sym alike ∙ placed }))

module _ (bk : Book) (raw : RawEntry) where
  -- a granted entry was written as it reads, and the book stays lawful with it, live or not
  pub entry_granted_stored : (live : Bool) → entry_refusal bk raw ≡ 0 → WritesEntry raw (entry_of raw) × (Lawful bk → Lawful (record { nodes = bk.nodes; entries = bk.entries ++ (record { entry = entry_of raw; live = live }) ∷ [] }))
  entry_granted_stored live h =
      let e = entry_of raw in
      let count = length bk.nodes in
      let p = passed (leb 256 (length bk.entries)) (is_entry e) (entry_within_limits e && entry_unused_zero raw) (entry_operands_below count e) (entry_typicality_allowed (concepts bk.nodes) e) h in
      let q = and_parts (entry_within_limits e) (entry_unused_zero raw) p.in_range in
      let u = and_parts (eqb raw.a (entry_a e)) (eqb raw.b (entry_b e) && eqb raw.c (entry_c e)) q.1 in
      let v = and_parts (eqb raw.b (entry_b e)) (eqb raw.c (entry_c e)) u.1 in
      let written : WritesEntry raw e = record { kind = entry_kind_read raw.kind raw.a raw.b raw.c p.is_known; a = eqb-true _ _ u.0; b = eqb-true _ _ v.0; c = eqb-true _ _ v.1 } in
      (written, λ lawful. lawful_with_stored bk lawful (record { entry = e; live = live }) (leb-false 256 (length bk.entries) p.room) (and_from _ _ p.is_known (and_from _ _ q.0 p.is_there)) p.is_placed)

  pub entry_granted : entry_refusal bk raw ≡ 0 → WritesEntry raw (entry_of raw) × (Lawful bk → Lawful (with_entry bk (entry_of raw)))
  entry_granted h = entry_granted_stored true h

  -- an entry with which the book is lawful is granted
  pub entry_taken : EntryFits bk raw → entry_refusal bk raw ≡ 0
  entry_taken (e, w, lawful) =
      let ls = bk.entries in
      let count = length bk.nodes in
      let l : StoredEntry = record { entry = e; live = true } in
      let more : length (ls ++ l ∷ []) ≡ length ls + 1 = length_push ls l in
      let here : get_or (ls ++ l ∷ []) (length ls) no_stored_entry ≡ l = get_or_push ls l no_stored_entry (length ls) refl in
      let last : (P : Entry → Type 0) → AllByRecursion (λ m. P m.entry) (ls ++ l ∷ []) → P e = λ P all. subst (λ m. P m.entry) here (All-get_or (λ m. P m.entry) (ls ++ l ∷ []) (length ls) no_stored_entry (omega (arith, more)) all) in
      let parts = entry_parts count e (last (λ x. entry_well_formed count x ≡ true) lawful.well_formed.entries) in
      let placed = last (λ x. entry_typicality_allowed (concepts bk.nodes) x ≡ true) lawful.in_place.entries in
      let is : entry_of raw ≡ e = entry_read e parts.0 raw w in
      let zeros : (eqb raw.a (entry_a e) && (eqb raw.b (entry_b e) && eqb raw.c (entry_c e))) ≡ true = and_from _ _ (eq-eqb _ _ w.a) (and_from _ _ (eq-eqb _ _ w.b) (eq-eqb _ _ w.c)) in
      rw is (all_passed (leb 256 (length ls)) (is_entry e) (entry_within_limits e && (eqb raw.a (entry_a e) && (eqb raw.b (entry_b e) && eqb raw.c (entry_c e)))) (entry_operands_below count e) (entry_typicality_allowed (concepts bk.nodes) e)
      (record { room = lt-leb 256 (length ls) (omega (arith, more, lawful.well_formed.few_entries)); is_known = parts.0; in_range = and_from _ _ parts.1 zeros; is_there = parts.2; is_placed = placed }))
