-- What keeps a book lawful: a record that fits, a strike; and that lawfulness is decided.
-- Assumes nothing.
use Rattle.std.proofs.Common.{◌≡◌, ℕ, zero, suc, ◌+◌, ◌<◌, ◌≤◌, true, ◌&&◌, ◌||◌, ltb, List, [], ◌∷◌, ◌++◌, length, get_or, take, drop, set, sym, refl, ap, ◌∙◌, subst, arith, lit≤}
use native.Mathlib.Decide.{dec_lt}
use Rattle.std.specs.List.{AllByRecursion}
use Rattle.std.proofs.lemmas.List.{length_push, length-set, length-take, get_or-take, get_or_past, take-append-drop}
use Rattle.std.proofs.ByRecursion.{All-get_or, All-push, All-take, All-weaker}
use Rattle.std.proofs.lemmas.Bool.{and_parts, and_from, ltb-true, lt-ltb}
use Rattle.logic.specs.declared.records.Node.{Node}
use Rattle.logic.specs.declared.records.Node.TheVariants as node
use Rattle.logic.specs.declared.records.Entry.{Entry}
use Rattle.logic.specs.declared.records.Entry.TheVariants as entry
use Rattle.logic.specs.declared.records.StoredEntry.{StoredEntry}
use Rattle.logic.specs.Concepts.{Concept, of, concepts, plain, is_typical}
use Rattle.logic.specs.Books.{Book, empty, node_at, no_stored_entry, stored_at, struck, with_node, with_strike}
use Rattle.logic.specs.Lawful.{is_node, node_within_limits, node_operands_below, node_well_formed, node_typicality_allowed, is_entry, entry_within_limits, entry_operands_below, entry_well_formed, entry_typicality_allowed, WellFormed, TypicalityInPlace, Lawful}
use Rattle.logic.proofs.Reading.{concepts_stay}

-- where two lists of concepts agree below k, what is made of nodes below k is placed alike
module _ (k : ℕ) (cs ds : List Concept) (agree : (i : ℕ) → i < k → of cs i ≡ of ds i) where
  plain_alike : (c : ℕ) → ltb c k ≡ true → plain (of cs c) ≡ plain (of ds c)
  plain_alike c h = ap plain (agree c (ltb-true c k h))

  pub node_placed_alike : (n : Node) → node_operands_below k n ≡ true → node_typicality_allowed cs n ≡ node_typicality_allowed ds n
  node_placed_alike node.Top h = refl
  node_placed_alike node.Bottom h = refl
  node_placed_alike (node.Name a) h = refl
  node_placed_alike (node.Not c) h = refl
  node_placed_alike (node.And c d) h = refl
  node_placed_alike (node.Or c d) h = refl
  node_placed_alike (node.All r c) h = plain_alike c h
  node_placed_alike (node.Exists r c) h = plain_alike c h
  node_placed_alike (node.Typical c) h = plain_alike c h
  node_placed_alike node.Absent h = refl

  pub entry_placed_alike : (e : Entry) → entry_operands_below k e ≡ true → entry_typicality_allowed cs e ≡ entry_typicality_allowed ds e
  entry_placed_alike (entry.Inclusion c d) h =
      let p = and_parts (ltb c k) (ltb d k) h in
      let ec = agree c (ltb-true c k p.0) in
      let ed = agree d (ltb-true d k p.1) in
      λ i. (is_typical (ec i) || plain (ec i)) && plain (ed i)
  entry_placed_alike (entry.Fact x c) h = refl
  entry_placed_alike (entry.RoleFact r x y) h = refl
  entry_placed_alike entry.Absent h = refl

-- what is there stays there as nodes are added
below_more : (c k l : ℕ) → k ≤ l → ltb c k ≡ true → ltb c l ≡ true
below_more c k l h t = lt-ltb c l (omega (arith, ltb-true c k t))

node_operands_more : (k l : ℕ) → k ≤ l → (n : Node) → node_operands_below k n ≡ true → node_operands_below l n ≡ true
node_operands_more k l h node.Top t = refl
node_operands_more k l h node.Bottom t = refl
node_operands_more k l h (node.Name a) t = refl
node_operands_more k l h (node.Not c) t = below_more c k l h t
node_operands_more k l h (node.And c d) t = let p = and_parts (ltb c k) (ltb d k) t in and_from _ _ (below_more c k l h p.0) (below_more d k l h p.1)
node_operands_more k l h (node.Or c d) t = let p = and_parts (ltb c k) (ltb d k) t in and_from _ _ (below_more c k l h p.0) (below_more d k l h p.1)
node_operands_more k l h (node.All r c) t = below_more c k l h t
node_operands_more k l h (node.Exists r c) t = below_more c k l h t
node_operands_more k l h (node.Typical c) t = below_more c k l h t
node_operands_more k l h node.Absent t = refl

entry_operands_more : (k l : ℕ) → k ≤ l → (e : Entry) → entry_operands_below k e ≡ true → entry_operands_below l e ≡ true
entry_operands_more k l h (entry.Inclusion c d) t = let p = and_parts (ltb c k) (ltb d k) t in and_from _ _ (below_more c k l h p.0) (below_more d k l h p.1)
entry_operands_more k l h (entry.Fact x c) t = below_more c k l h t
entry_operands_more k l h (entry.RoleFact r x y) t = refl
entry_operands_more k l h entry.Absent t = refl

-- the three parts of being well formed
pub node_parts : (k : ℕ) (n : Node) → node_well_formed k n ≡ true → (is_node n ≡ true) × (node_within_limits n ≡ true) × (node_operands_below k n ≡ true)
node_parts k n h =
    let p = and_parts (is_node n) (node_within_limits n && node_operands_below k n) h in
    let q = and_parts (node_within_limits n) (node_operands_below k n) p.1 in
    (p.0, q.0, q.1)

pub entry_parts : (k : ℕ) (e : Entry) → entry_well_formed k e ≡ true → (is_entry e ≡ true) × (entry_within_limits e ≡ true) × (entry_operands_below k e ≡ true)
entry_parts k e h =
    let p = and_parts (is_entry e) (entry_within_limits e && entry_operands_below k e) h in
    let q = and_parts (entry_within_limits e) (entry_operands_below k e) p.1 in
    (p.0, q.0, q.1)

-- at every place of a well-formed book, past the end too, numbers are within their limits and operands there
pub node_within : (bk : Book) → WellFormed bk → (i : ℕ) → (node_within_limits (node_at bk i) ≡ true) × (node_operands_below i (node_at bk i) ≡ true)
node_within bk w i = go (dec_lt i (length bk.nodes))
  where
    go : Dec (i < length bk.nodes) → (node_within_limits (node_at bk i) ≡ true) × (node_operands_below i (node_at bk i) ≡ true)
    go (yes h) = let p = node_parts i (node_at bk i) (w.nodes i h) in (p.1, p.2)
    go (no n) = let past = get_or_past bk.nodes i node.Absent (omega arith) in (ap node_within_limits past, ap (node_operands_below i) past)

pub entry_within : (bk : Book) → WellFormed bk → (i : ℕ) → entry_within_limits (stored_at bk i).entry ≡ true
entry_within bk w i = go (dec_lt i (length bk.entries))
  where
    go : Dec (i < length bk.entries) → entry_within_limits (stored_at bk i).entry ≡ true
    go (yes h) = (entry_parts (length bk.nodes) (stored_at bk i).entry (All-get_or (λ l. entry_well_formed (length bk.nodes) l.entry ≡ true) bk.entries i no_stored_entry h w.entries)).1
    go (no n) = ap (λ l. entry_within_limits l.entry) (get_or_past bk.entries i no_stored_entry (omega arith))

entry_well_formed_more : (k l : ℕ) → k ≤ l → (e : Entry) → entry_well_formed k e ≡ true → entry_well_formed l e ≡ true
entry_well_formed_more k l h e t =
    let p = entry_parts k e t in
    and_from _ _ p.0 (and_from _ _ p.1 (entry_operands_more k l h e p.2))

-- what holds of each element by its place holds of one more
pushed : {A : Type 0} (P : ℕ → A → Type 0) (xs : List A) (x d : A) → ((i : ℕ) → i < length xs → P i (get_or xs i d)) → P (length xs) x → (i : ℕ) → i < length (xs ++ x ∷ []) → P i (get_or (xs ++ x ∷ []) i d)
pushed P [] x d f p zero h = p
pushed P [] x d f p (suc i) h = absurd (omega arith)
pushed P (y ∷ xs) x d f p zero h = f zero (omega arith)
pushed P (y ∷ xs) x d f p (suc i) h = pushed (λ j. P (suc j)) xs x d (λ j l. f (suc j) (omega arith)) p i (omega arith)

front_within : (i : ℕ) (ns : List Node) (k : ℕ) → k < length (take i ns) → k < i
front_within i ns k h = omega (arith, length-take i ns)

-- what holds of each entry holds after a strike
all_struck : (P : Entry → Type 0) (ls : List StoredEntry) (i : ℕ) → AllByRecursion (λ l. P l.entry) ls → AllByRecursion (λ l. P l.entry) (set ls i (struck (get_or ls i no_stored_entry)))
all_struck P [] i h = tt
all_struck P (l ∷ ls) zero h = h
all_struck P (l ∷ ls) (suc i) h = (h.0, all_struck P ls i h.1)

module _ (bk : Book) (lawful : Lawful bk) where
  -- a node that is appended leaves the concepts of those before it
  before : (n : Node) (i : ℕ) → i < length bk.nodes → of (concepts (bk.nodes ++ n ∷ [])) i ≡ of (concepts bk.nodes) i
  before n i h = concepts_stay bk.nodes (n ∷ []) i h

  -- one node more, which is well formed and has typicality in place
  pub lawful_with_node : (n : Node) → length bk.nodes < 512 → node_well_formed (length bk.nodes) n ≡ true → node_typicality_allowed (concepts bk.nodes) n ≡ true → Lawful (with_node bk n)
  lawful_with_node n room formed placed =
      let ns = bk.nodes in
      let count = length ns in
      let w = lawful.well_formed in
      let t = lawful.in_place in
      let more : length (ns ++ n ∷ []) ≡ count + 1 = length_push ns n in
      let well : WellFormed (with_node bk n) = record {
        few_nodes = omega (arith, more);
        few_entries = w.few_entries;
        nodes = pushed (λ i m. node_well_formed i m ≡ true) ns n node.Absent w.nodes formed;
        entries = All-weaker _ _ (λ l h. entry_well_formed_more count (length (ns ++ n ∷ [])) (omega (arith, more)) l.entry h) bk.entries w.entries;
      } in
      let below : (i : ℕ) → i < count → node_operands_below count (node_at bk i) ≡ true = λ i h. node_operands_more i count (omega arith) (node_at bk i) (node_parts i (node_at bk i) (w.nodes i h)).2 in
      let alike : (m : Node) → node_operands_below count m ≡ true → node_typicality_allowed (concepts (ns ++ n ∷ [])) m ≡ node_typicality_allowed (concepts ns) m = node_placed_alike count (concepts (ns ++ n ∷ [])) (concepts ns) (before n) in
      let entries : AllByRecursion (λ l. entry_typicality_allowed (concepts (ns ++ n ∷ [])) l.entry ≡ true) bk.entries = all_both bk.entries w.entries t.entries in
      let place : TypicalityInPlace (with_node bk n) = record {
        nodes = pushed (λ i m. node_typicality_allowed (concepts (ns ++ n ∷ [])) m ≡ true) ns n node.Absent (λ i h. alike (node_at bk i) (below i h) ∙ t.nodes i h) (alike n (node_parts count n formed).2 ∙ placed);
        entries = entries;
      } in
      record { well_formed = well; in_place = place }
    where
      all_both : (ls : List StoredEntry) → AllByRecursion (λ l. entry_well_formed (length bk.nodes) l.entry ≡ true) ls → AllByRecursion (λ l. entry_typicality_allowed (concepts bk.nodes) l.entry ≡ true) ls → AllByRecursion (λ l. entry_typicality_allowed (concepts (bk.nodes ++ n ∷ [])) l.entry ≡ true) ls
      all_both [] a b = tt
      all_both (l ∷ ls) a b =
          (entry_placed_alike (length bk.nodes) (concepts (bk.nodes ++ n ∷ [])) (concepts bk.nodes) (before n) l.entry (entry_parts (length bk.nodes) l.entry a.0).2 ∙ b.0, all_both ls a.1 b.1)

  -- one entry more, which is well formed and has typicality in place, live or not
  pub lawful_with_stored : (l : StoredEntry) → length bk.entries < 256 → entry_well_formed (length bk.nodes) l.entry ≡ true → entry_typicality_allowed (concepts bk.nodes) l.entry ≡ true → Lawful (record { nodes = bk.nodes; entries = bk.entries ++ l ∷ [] })
  lawful_with_stored l room formed placed =
      let w = lawful.well_formed in
      let t = lawful.in_place in
      record {
        well_formed = record {
          few_nodes = w.few_nodes;
          few_entries = omega (arith, length_push bk.entries l);
          nodes = w.nodes;
          entries = All-push (λ l. entry_well_formed (length bk.nodes) l.entry ≡ true) bk.entries l w.entries formed;
        };
        in_place = record { nodes = t.nodes; entries = All-push (λ l. entry_typicality_allowed (concepts bk.nodes) l.entry ≡ true) bk.entries l t.entries placed };
      }

  -- the first i nodes alone
  pub lawful_nodes_front : (i : ℕ) → Lawful (record { nodes = take i bk.nodes; entries = [] })
  lawful_nodes_front i =
      let ns = bk.nodes in
      let w = lawful.well_formed in
      let t = lawful.in_place in
      let count = length (take i ns) in
      let few : count ≤ length ns = rw length-take (omega arith) in
      let at : (k : ℕ) → k < count → get_or (take i ns) k node.Absent ≡ get_or ns k node.Absent = λ k h. get_or-take i ns k node.Absent (front_within i ns k h) in
      let agree : (k : ℕ) → k < count → of (concepts ns) k ≡ of (concepts (take i ns)) k = λ k h. subst (λ xs. of (concepts xs) k ≡ of (concepts (take i ns)) k) (take-append-drop i ns) (concepts_stay (take i ns) (drop i ns) k h) in
      let formed : (k : ℕ) → k < count → node_well_formed k (get_or (take i ns) k node.Absent) ≡ true = λ k h. ap (node_well_formed k) (at k h) ∙ w.nodes k (omega arith) in
      let below : (k : ℕ) → k < count → node_operands_below count (get_or (take i ns) k node.Absent) ≡ true = λ k h. node_operands_more k count (omega arith) _ (node_parts k _ (formed k h)).2 in
      record {
        well_formed = record { few_nodes = omega (arith, w.few_nodes); few_entries = lit≤ tt; nodes = formed; entries = tt };
        in_place = record {
          nodes = λ k h. sym (node_placed_alike count (concepts ns) (concepts (take i ns)) agree _ (below k h)) ∙ ap (node_typicality_allowed (concepts ns)) (at k h) ∙ t.nodes k (omega arith);
          entries = tt;
        };
      }

  -- all nodes, and the first j entries
  pub lawful_entries_front : (j : ℕ) → Lawful (record { nodes = bk.nodes; entries = take j bk.entries })
  lawful_entries_front j =
      let w = lawful.well_formed in
      let t = lawful.in_place in
      record {
        well_formed = record { few_nodes = w.few_nodes; few_entries = rw length-take (omega (arith, w.few_entries)); nodes = w.nodes; entries = All-take _ j bk.entries w.entries };
        in_place = record { nodes = t.nodes; entries = All-take _ j bk.entries t.entries };
      }

  -- a strike leaves every entry
  pub lawful_with_strike : (i : ℕ) → Lawful (with_strike bk i)
  lawful_with_strike i =
      let w = lawful.well_formed in
      let t = lawful.in_place in
      record {
        well_formed = record {
          few_nodes = w.few_nodes;
          few_entries = rw length-set w.few_entries;
          nodes = w.nodes;
          entries = all_struck (λ e. entry_well_formed (length bk.nodes) e ≡ true) bk.entries i w.entries;
        };
        in_place = record { nodes = t.nodes; entries = all_struck (λ e. entry_typicality_allowed (concepts bk.nodes) e ≡ true) bk.entries i t.entries };
      }

pub lawful_empty : Lawful empty
lawful_empty =
    record {
      well_formed = record { few_nodes = lit≤ tt; few_entries = lit≤ tt; nodes = λ i h. absurd (omega arith); entries = tt };
      in_place = record { nodes = λ i h. absurd (omega arith); entries = tt };
    }
