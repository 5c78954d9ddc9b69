-- The records of a journal: the book with one record more, the nodes and the marks of a list of records,
-- entries that are struck. Assumes nothing.
use Rattle.std.proofs.Common.{◌≡◌, ℕ, zero, suc, ◌+◌, ◌<◌, ◌≤◌, true, cond, eqb, List, [], ◌∷◌, ◌++◌, length, get_or, take, set, sym, refl, ap, ◌∙◌, inl, inr, arith}
use Rattle.std.proofs.lemmas.List.{append-nil, append_assoc, take_more, get_or-set_other}
use Rattle.std.proofs.lemmas.Bool.{false≢true, cases_Bool, eqb-true, eqb-false, cond_both}
use Rattle.logic.specs.declared.records.StoredEntry.{StoredEntry}
use Rattle.logic.specs.Books.{Book, empty, no_stored_entry, struck, with_node, with_entry, with_strike}
use Rattle.books.specs.declared.journal_record.Record.{Record}
use Rattle.books.specs.declared.journal_record.Record.TheVariants as records
use Rattle.books.specs.Marks.{nodes_of, marks_of_nodes}
use Rattle.books.specs.Replay.{recorded, replay, recorded_nodes, struck_count}

-- the book with one record more, from any book on
pub replay_on : (bk : Book) (rs : List Record) (r : Record) → replay bk (rs ++ r ∷ []) ≡ recorded (replay bk rs) r
replay_on bk [] r = refl
replay_on bk (q ∷ rs) r = replay_on (recorded bk q) rs r

-- the same of an empty book, by an equation of records
pub replay-push : (rs rs' : List Record) (r : Record) → rs' ≡ rs ++ r ∷ [] → replay empty rs' ≡ recorded (replay empty rs) r
replay-push rs rs' r e = ap (replay empty) e ∙ replay_on empty rs r

-- the same in a loop over the records
pub replay_more : (rs : List Record) (k : ℕ) (d : Record) → k < length rs → replay empty (take (k + 1) rs) ≡ recorded (replay empty (take k rs)) (get_or rs k d)
replay_more rs k d h = replay-push (take k rs) (take (k + 1) rs) (get_or rs k d) (take_more rs k d h)

nodes_on : (bk : Book) (rs : List Record) → bk.nodes ++ nodes_of (recorded_nodes rs) ≡ (replay bk rs).nodes
nodes_on bk [] = append-nil bk.nodes
nodes_on bk (records.Node m ∷ rs) = sym (append_assoc bk.nodes (m.node ∷ []) (nodes_of (recorded_nodes rs))) ∙ nodes_on (with_node bk m.node) rs
nodes_on bk (records.Entry e ∷ rs) = nodes_on (with_entry bk e) rs
nodes_on bk (records.Strike i ∷ rs) = nodes_on (with_strike bk i) rs

-- the nodes of the book are those of the records
pub replay_nodes : (rs : List Record) → nodes_of (recorded_nodes rs) ≡ (replay empty rs).nodes
replay_nodes rs = nodes_on empty rs

-- the marks with one record more
pub marks_push : (rs : List Record) (r : Record) → marks_of_nodes (recorded_nodes (rs ++ r ∷ [])) ≡ marks_of_nodes (recorded_nodes rs) ++ marks_of_nodes (recorded_nodes (r ∷ []))
marks_push [] r = refl
marks_push (records.Node m ∷ rs) r = ap (λ ms. m.plain ∷ ms) (marks_push rs r)
marks_push (records.Entry e ∷ rs) r = marks_push rs r
marks_push (records.Strike i ∷ rs) r = marks_push rs r

-- a push changes only what stands right behind the end
pub get_or-push_other : {X : Type 0} (xs : List X) (x d : X) (i : ℕ) → (length xs ≡ i → ⊥) → get_or (xs ++ x ∷ []) i d ≡ get_or xs i d
get_or-push_other [] x d zero h = absurd (h refl)
get_or-push_other [] x d (suc i) h = refl
get_or-push_other (y ∷ xs) x d zero h = refl
get_or-push_other (y ∷ xs) x d (suc i) h = get_or-push_other xs x d i (λ e. h (ap suc e))

read_struck : (ls : List StoredEntry) (i : ℕ) → get_or (set ls i (struck (get_or ls i no_stored_entry))) i no_stored_entry ≡ struck (get_or ls i no_stored_entry)
read_struck [] i = refl
read_struck (l ∷ ls) zero = refl
read_struck (l ∷ ls) (suc i) = read_struck ls i

-- entry i after entry j is struck, past the end too
pub read_strike : (ls : List StoredEntry) (j i : ℕ) → get_or (set ls j (struck (get_or ls j no_stored_entry))) i no_stored_entry ≡ cond (eqb j i) (struck (get_or ls i no_stored_entry)) (get_or ls i no_stored_entry)
read_strike ls j i =
    let after : ℕ → List StoredEntry = λ k. set ls k (struck (get_or ls k no_stored_entry)) in
    cond_both (eqb j i) (struck (get_or ls i no_stored_entry)) (get_or ls i no_stored_entry) (λ l. get_or (after j) i no_stored_entry ≡ l)
    (λ e. ap (λ k. get_or (after k) i no_stored_entry) (eqb-true j i e) ∙ read_struck ls i)
    (λ e. get_or-set_other ls j i _ no_stored_entry (λ same. eqb-false j i e (sym same)))

pub struck_count_le : (ls : List StoredEntry) → struck_count ls ≤ length ls
struck_count_le [] = omega arith
struck_count_le (l ∷ ls) = elim (cases_Bool l.live) [ inl e ↦ rw e (omega (arith, struck_count_le ls)) | inr e ↦ rw e (omega (arith, struck_count_le ls)) ]

-- a live entry more
pub struck_count-push : (ls : List StoredEntry) (l : StoredEntry) → l.live ≡ true → struck_count (ls ++ l ∷ []) ≡ struck_count ls
struck_count-push [] l h = rw h
struck_count-push (m ∷ ls) l h = ap (λ n. cond m.live 0 1 + n) (struck_count-push ls l h)

-- a live entry struck
pub struck_count-set : (ls : List StoredEntry) (i : ℕ) → (get_or ls i no_stored_entry).live ≡ true → struck_count (set ls i (struck (get_or ls i no_stored_entry))) ≡ struck_count ls + 1
struck_count-set [] i h = absurd (false≢true h)
struck_count-set (l ∷ ls) zero h = rw h (omega arith)
struck_count-set (l ∷ ls) (suc i) h = omega (arith, struck_count-set ls i h)
