-- The writing of a lawful book, behind any note, passes and reads back as it was. Assumes nothing.
use Rattle.std.proofs.Common.{◌≡◌, ℕ, ◌+◌, ◌-◌, ◌*◌, ◌/◌, ◌%◌, ◌<◌, ◌≤◌, Bool, true, ltb, List, [], ◌∷◌, ◌++◌, length, take, drop, sym, refl, ap, ◌∙◌, subst, arith}
use native.Mathlib.Nat.{mod-add-div}
use Rattle.std.specs.List.{flat_map, AllByRecursion}
use Rattle.std.proofs.lemmas.List.{append_assoc, length-append, length_push, length-take-le, drop_at, drop-append-le, drop-drop, drop_more, get_or-take, take_more, take_all, same_lists, get_or_default}
use Rattle.std.proofs.ByRecursion.{All-get_or}
use Rattle.std.proofs.lemmas.Bool.{and_from, le-leb, eq-eqb}
use Rattle.logic.specs.declared.records.Node.{Node}
use Rattle.logic.specs.declared.records.Node.TheVariants as node
use Rattle.logic.specs.declared.records.Entry.{Entry}
use Rattle.logic.specs.declared.records.StoredEntry.{StoredEntry}
use Rattle.logic.specs.Written.{node_of, WritesNode, WritesEntry}
use Rattle.logic.specs.Concepts.{concepts}
use Rattle.logic.specs.Books.{Book, node_at, no_stored_entry, stored_at}
use Rattle.logic.specs.Lawful.{Lawful, is_entry, entry_well_formed, entry_typicality_allowed}
use Rattle.logic.specs.Refusals.{node_refusal, entry_refusal}
use Rattle.logic.proofs.Lawfulness.{node_parts, entry_parts, lawful_nodes_front, lawful_entries_front}
use Rattle.logic.proofs.Refusing.{node_read, node_taken, entry_read, entry_taken}
use Rattle.sealed.specs.Writing.{node_bytes, entry_bytes, records_length, trailer_bytes, book_bytes, SealedAs}
use Rattle.logic.specs.Bytes.{byte}
use Rattle.sealed.specs.Reading.{raw_node_at, raw_entry_at, stored_at_offset, nodes_in, entries_in, node_total, entry_total, distance, has_trailer, node_start, entry_start, sealed_book, node_refusal_in, entry_refusal_in}
use Rattle.sealed.specs.Checks.{AllGranted, Passes}
use Rattle.sealed.proofs.Numbers.{u32_halves, byte_written, u16_from, length_joined, drop_joined}
use Rattle.sealed.proofs.Records.{node_reads, entry_reads}
use Rattle.sealed.proofs.Rows.{length-nodes_in, get_or-nodes_in, length-entries_in, get_or-entries_in}

pub length-written : (bk : Book) → length (book_bytes bk) ≡ records_length (length bk.nodes) (length bk.entries) + 8
unfolding book_bytes
length-written bk =
    let ns = flat_map node_bytes bk.nodes in
    let ls = flat_map entry_bytes bk.entries in
    let t = trailer_bytes (length bk.nodes) (length bk.entries) in
    omega (arith, length-append ns (ls ++ t), length-append ls t, length_joined node_bytes 5 (λ _. refl) bk.nodes, length_joined entry_bytes 7 (λ _. refl) bk.entries)

-- a last entry may be live or not
lawful_relit : (ns : List Node) (ls : List StoredEntry) (l : StoredEntry) (live : Bool) → Lawful (record { nodes = ns; entries = ls ++ l ∷ [] }) → Lawful (record { nodes = ns; entries = ls ++ (record { entry = l.entry; live = live }) ∷ [] })
lawful_relit ns ls l live h =
    let other : StoredEntry = record { entry = l.entry; live = live } in
    let same : (P : Entry → Type 0) (xs : List StoredEntry) → AllByRecursion (λ x. P x.entry) (xs ++ l ∷ []) → AllByRecursion (λ x. P x.entry) (xs ++ other ∷ []) = relit in
    record {
      well_formed = record {
        few_nodes = h.well_formed.few_nodes;
        few_entries = omega (arith, length_push ls l, length_push ls other, h.well_formed.few_entries);
        nodes = h.well_formed.nodes;
        entries = same (λ e. entry_well_formed (length ns) e ≡ true) ls h.well_formed.entries;
      };
      in_place = record { nodes = h.in_place.nodes; entries = same (λ e. entry_typicality_allowed (concepts ns) e ≡ true) ls h.in_place.entries };
    }
  where
    relit : (P : Entry → Type 0) (xs : List StoredEntry) → AllByRecursion (λ x. P x.entry) (xs ++ l ∷ []) → AllByRecursion (λ x. P x.entry) (xs ++ (record { entry = l.entry; live = live }) ∷ [])
    relit P [] a = a
    relit P (x ∷ xs) a = (a.0, relit P xs a.1)

module _ (bs : List ℕ) (bk : Book) (sealed : SealedAs bs bk) where
  abbrev n : ℕ
  n = length bk.nodes

  abbrev m : ℕ
  m = length bk.entries

  abbrev start : ℕ
  start = length sealed.note

  abbrev behind_nodes : List ℕ
  behind_nodes = flat_map entry_bytes bk.entries ++ trailer_bytes n m

  long : length bs ≡ start + (records_length n m + 8)
  long = ap length sealed.is ∙ length-append sealed.note (book_bytes bk) ∙ ap (λ k. start + k) (length-written bk)

  from_start : drop start bs ≡ flat_map node_bytes bk.nodes ++ behind_nodes
  unfolding book_bytes
  from_start = ap (drop start) sealed.is ∙ drop_at sealed.note (book_bytes bk) start refl

  -- what stands from node i on, and from entry j on
  from_node : (i : ℕ) → i ≤ n → drop (start + 5 * i) bs ≡ flat_map node_bytes (drop i bk.nodes) ++ behind_nodes
  from_node i h =
      sym (drop-drop (5 * i) start bs) ∙ ap (drop (5 * i)) from_start
      ∙ drop-append-le (5 * i) (flat_map node_bytes bk.nodes) behind_nodes (omega (arith, length_joined node_bytes 5 (λ _. refl) bk.nodes))
      ∙ ap (λ xs. xs ++ behind_nodes) (drop_joined node_bytes 5 (λ _. refl) bk.nodes i h)

  from_entries : drop (start + 5 * n) bs ≡ behind_nodes
  from_entries =
      sym (drop-drop (5 * n) start bs) ∙ ap (drop (5 * n)) from_start
      ∙ drop_at (flat_map node_bytes bk.nodes) behind_nodes (5 * n) (length_joined node_bytes 5 (λ _. refl) bk.nodes)

  from_entry : (j : ℕ) → j ≤ m → drop (start + 5 * n + 7 * j) bs ≡ flat_map entry_bytes (drop j bk.entries) ++ trailer_bytes n m
  from_entry j h =
      sym (drop-drop (7 * j) (start + 5 * n) bs) ∙ ap (drop (7 * j)) from_entries
      ∙ drop-append-le (7 * j) (flat_map entry_bytes bk.entries) (trailer_bytes n m) (omega (arith, length_joined entry_bytes 7 (λ _. refl) bk.entries))
      ∙ ap (λ xs. xs ++ trailer_bytes n m) (drop_joined entry_bytes 7 (λ _. refl) bk.entries j h)

  from_trailer : drop (start + 5 * n + 7 * m) bs ≡ trailer_bytes n m
  from_trailer =
      sym (drop-drop (7 * m) (start + 5 * n) bs) ∙ ap (drop (7 * m)) from_entries
      ∙ drop_at (flat_map entry_bytes bk.entries) (trailer_bytes n m) (7 * m) (length_joined entry_bytes 7 (λ _. refl) bk.entries)

  -- the trailer reads as it was written
  trailer_byte : (k j : ℕ) → start + 5 * n + 7 * m + k ≡ j → byte bs j ≡ byte (trailer_bytes n m) k
  trailer_byte k j e = byte_written bs (trailer_bytes n m) (start + 5 * n + 7 * m) k j e from_trailer

  nodes_read : node_total bs ≡ n
  unfolding node_total
  nodes_read = u16_from _ _ n (trailer_byte 0 (length bs - 8) (omega (arith, long))) (trailer_byte 1 (length bs - 8 + 1) (omega (arith, long)))

  entries_read : entry_total bs ≡ m
  unfolding entry_total
  entries_read = u16_from _ _ m (trailer_byte 2 (length bs - 6) (omega (arith, long))) (trailer_byte 3 (length bs - 6 + 1) (omega (arith, long)))

  distance_read : distance bs ≡ records_length n m
  unfolding distance
  distance_read =
      let d = records_length n m in
      let low = u16_from _ _ (d % 65536) (trailer_byte 4 (length bs - 4) (omega (arith, long))) (trailer_byte 5 (length bs - 4 + 1) (omega (arith, long))) in
      let high = u16_from _ _ (d / 65536) (trailer_byte 6 (length bs - 4 + 2) (omega (arith, long))) (trailer_byte 7 (length bs - 4 + 2 + 1) (omega (arith, long))) in
      u32_halves bs (length bs - 4) ∙ (λ i. low i + 65536 * high i) ∙ mod-add-div d 65536

  frame_fits : has_trailer bs ≡ true
  frame_fits =
      let w = sealed.lawful.well_formed in
      let d : distance bs ≡ records_length (node_total bs) (entry_total bs) = omega (arith, distance_read, nodes_read, entries_read) in
      and_from _ _ (le-leb 8 (length bs) (omega (arith, long)))
      (and_from _ _ (le-leb (node_total bs) 512 (omega (arith, nodes_read, w.few_nodes)))
      (and_from _ _ (le-leb (entry_total bs) 256 (omega (arith, entries_read, w.few_entries)))
      (and_from _ _ (eq-eqb (distance bs) (records_length (node_total bs) (entry_total bs)) d)
      (le-leb (distance bs) (length bs - 8) (omega (arith, distance_read, long))))))

  starts : node_start bs n m ≡ start
  starts = omega (arith, long)

  entry_starts : entry_start bs m ≡ start + 5 * n
  entry_starts = omega (arith, long)

  -- each node reads as it was written
  node_is : (i : ℕ) → i < n → WritesNode (raw_node_at bs (node_start bs n m + 5 * i)) (node_at bk i)
  node_is i h =
      let ns = bk.nodes in
      let rest = flat_map node_bytes (drop (i + 1) ns) in
      let here : drop (start + 5 * i) bs ≡ node_bytes (node_at bk i) ++ (rest ++ behind_nodes) =
      from_node i (omega arith) ∙ ap (λ xs. flat_map node_bytes xs ++ behind_nodes) (drop_more ns i node.Absent h) ∙ append_assoc (node_bytes (node_at bk i)) rest behind_nodes in
      subst (λ s. WritesNode (raw_node_at bs (s + 5 * i)) (node_at bk i)) (sym starts) (node_reads bs (rest ++ behind_nodes) (start + 5 * i) (node_at bk i) here)

  node_reads_back : (i : ℕ) → i < n → node_of (raw_node_at bs (node_start bs n m + 5 * i)) ≡ node_at bk i
  node_reads_back i h = node_read (node_at bk i) (node_parts i (node_at bk i) (sealed.lawful.well_formed.nodes i h)).0 _ (node_is i h)

  first_nodes : (i : ℕ) → i ≤ n → nodes_in bs (node_start bs n m) i ≡ take i bk.nodes
  first_nodes i h =
      let s = node_start bs n m in
      same_lists (nodes_in bs s i) (take i bk.nodes) (length-nodes_in bs s i ∙ sym (length-take-le i bk.nodes h))
      (λ k d l.
      (let below : k < i = subst (λ x. k < x) (length-nodes_in bs s i) l in
      get_or-nodes_in bs s i k d below ∙ node_reads_back k (omega arith) ∙ get_or_default bk.nodes k node.Absent d (omega arith) ∙ sym (get_or-take i bk.nodes k d below)))

  nodes_granted : AllGranted (node_refusal_in bs (node_start bs n m)) n
  nodes_granted i h =
      let ns = bk.nodes in
      let s = node_start bs n m in
      let front : Book = record { nodes = take i ns; entries = [] } in
      let grown : Lawful (record { nodes = take i ns ++ node_at bk i ∷ []; entries = [] }) = subst (λ xs. Lawful (record { nodes = xs; entries = [] })) (take_more ns i node.Absent h) (lawful_nodes_front bk sealed.lawful (i + 1)) in
      let granted = node_taken front (raw_node_at bs (s + 5 * i)) (node_at bk i, node_is i h, grown) in
      subst (λ xs. node_refusal (record { nodes = xs; entries = [] }) (raw_node_at bs (s + 5 * i)) ≡ 0) (sym (first_nodes i (omega arith))) granted

  all_nodes : nodes_in bs (node_start bs n m) n ≡ bk.nodes
  all_nodes = first_nodes n (omega arith) ∙ take_all n bk.nodes (omega arith)

  -- each entry reads as it was written, with its live mark
  known_entry : (j : ℕ) → j < m → is_entry (stored_at bk j).entry ≡ true
  known_entry j h = (entry_parts n (stored_at bk j).entry (All-get_or (λ l. entry_well_formed n l.entry ≡ true) bk.entries j no_stored_entry h sealed.lawful.well_formed.entries)).0

  entry_is : (j : ℕ) → j < m → WritesEntry (raw_entry_at bs (entry_start bs m + 7 * j)) (stored_at bk j).entry × (ltb (byte bs (entry_start bs m + 7 * j)) 16 ≡ (stored_at bk j).live)
  entry_is j h =
      let ls = bk.entries in
      let l = stored_at bk j in
      let rest = flat_map entry_bytes (drop (j + 1) ls) in
      let here : drop (start + 5 * n + 7 * j) bs ≡ entry_bytes l ++ (rest ++ trailer_bytes n m) =
      from_entry j (omega arith) ∙ ap (λ xs. flat_map entry_bytes xs ++ trailer_bytes n m) (drop_more ls j no_stored_entry h) ∙ append_assoc (entry_bytes l) rest (trailer_bytes n m) in
      subst (λ s. WritesEntry (raw_entry_at bs (s + 7 * j)) l.entry × (ltb (byte bs (s + 7 * j)) 16 ≡ l.live)) (sym entry_starts) (entry_reads bs (rest ++ trailer_bytes n m) (start + 5 * n + 7 * j) l (known_entry j h) here)

  entry_reads_back : (j : ℕ) → j < m → stored_at_offset bs (entry_start bs m + 7 * j) ≡ stored_at bk j
  entry_reads_back j h =
      let w = entry_is j h in
      let e = entry_read (stored_at bk j).entry (known_entry j h) _ w.0 in
      λ i. record { entry = e i; live = w.1 i }

  first_lines : (j : ℕ) → j ≤ m → entries_in bs (entry_start bs m) j ≡ take j bk.entries
  first_lines j h =
      let s = entry_start bs m in
      same_lists (entries_in bs s j) (take j bk.entries) (length-entries_in bs s j ∙ sym (length-take-le j bk.entries h))
      (λ k d l.
      (let below : k < j = subst (λ x. k < x) (length-entries_in bs s j) l in
      get_or-entries_in bs s j k d below ∙ entry_reads_back k (omega arith) ∙ get_or_default bk.entries k no_stored_entry d (omega arith) ∙ sym (get_or-take j bk.entries k d below)))

  entries_granted : AllGranted (entry_refusal_in bs (nodes_in bs (node_start bs n m) n) (entry_start bs m)) m
  entries_granted j h =
      let ls = bk.entries in
      let raw = raw_entry_at bs (entry_start bs m + 7 * j) in
      let front : Book = record { nodes = bk.nodes; entries = take j ls } in
      let grown = lawful_relit bk.nodes (take j ls) (stored_at bk j) true (subst (λ xs. Lawful (record { nodes = bk.nodes; entries = xs })) (take_more ls j no_stored_entry h) (lawful_entries_front bk sealed.lawful (j + 1))) in
      let granted = entry_taken front raw ((stored_at bk j).entry, (entry_is j h).0, grown) in
      let ns-is = all_nodes in
      let ls-is = first_lines j (omega arith) in
      subst (λ b. entry_refusal b raw ≡ 0) (λ i. record { nodes = sym ns-is i; entries = sym ls-is i }) granted

  pub sealed_passes : Passes bs n m
  sealed_passes = record { fits = frame_fits; nodes_are = sym nodes_read; entries_are = sym entries_read; nodes = nodes_granted; entries = entries_granted }

  -- the book reads back
  pub sealed_reads : sealed_book bs n m ≡ bk
  sealed_reads =
      let ls-is = first_lines m (omega arith) ∙ take_all m bk.entries (omega arith) in
      λ i. record { nodes = all_nodes i; entries = ls-is i }
