-- The records from an offset on: how many there are, each of them, and one more. Assumes nothing.
use Rattle.std.proofs.Common.{◌≡◌, ℕ, ◌+◌, ◌*◌, ◌<◌, List, [], ◌∷◌, ◌++◌, length, get_or, refl, zero-add}
use Rattle.std.proofs.lemmas.List.FromFn.{length-map-range_with_len, get_or-map-range_with_len, map-range_with_len_more}
use Rattle.logic.specs.declared.records.Node.{Node}
use Rattle.logic.specs.declared.records.StoredEntry.{StoredEntry}
use Rattle.logic.specs.Written.{node_of}
use Rattle.sealed.specs.Reading.{raw_node_at, stored_at_offset, nodes_in, entries_in}

module _ (bs : List ℕ) (from : ℕ) where
  pub nodes_in_none : nodes_in bs from 0 ≡ []
  unfolding nodes_in
  nodes_in_none = refl

  pub nodes_in_more : (n : ℕ) → nodes_in bs from (n + 1) ≡ nodes_in bs from n ++ node_of (raw_node_at bs (from + 5 * n)) ∷ []
  unfolding nodes_in
  nodes_in_more n = map-range_with_len_more (λ i. node_of (raw_node_at bs (from + 5 * i))) 0 n n (zero-add n)

  pub length-nodes_in : (n : ℕ) → length (nodes_in bs from n) ≡ n
  unfolding nodes_in
  length-nodes_in n = length-map-range_with_len (λ i. node_of (raw_node_at bs (from + 5 * i))) 0 n

  pub get_or-nodes_in : (n i : ℕ) (d : Node) → i < n → get_or (nodes_in bs from n) i d ≡ node_of (raw_node_at bs (from + 5 * i))
  unfolding nodes_in
  get_or-nodes_in n i d h = get_or-map-range_with_len (λ i. node_of (raw_node_at bs (from + 5 * i))) 0 n i i d h (zero-add i)

  pub entries_in_none : entries_in bs from 0 ≡ []
  unfolding entries_in
  entries_in_none = refl

  pub entries_in_more : (n : ℕ) → entries_in bs from (n + 1) ≡ entries_in bs from n ++ stored_at_offset bs (from + 7 * n) ∷ []
  unfolding entries_in
  entries_in_more n = map-range_with_len_more (λ i. stored_at_offset bs (from + 7 * i)) 0 n n (zero-add n)

  pub length-entries_in : (n : ℕ) → length (entries_in bs from n) ≡ n
  unfolding entries_in
  length-entries_in n = length-map-range_with_len (λ i. stored_at_offset bs (from + 7 * i)) 0 n

  pub get_or-entries_in : (n i : ℕ) (d : StoredEntry) → i < n → get_or (entries_in bs from n) i d ≡ stored_at_offset bs (from + 7 * i)
  unfolding entries_in
  get_or-entries_in n i d h = get_or-map-range_with_len (λ i. stored_at_offset bs (from + 7 * i)) 0 n i i d h (zero-add i)
