-- What a change of a book leaves as it was: the other entries, and whether they are true.
-- Assumes nothing.
use Rattle.std.proofs.Common.{◌≡◌, ℕ, ◌<◌, ◌↔◌, refl, Bool, true, false, [], ◌∷◌, length, sym, ap, ◌∙◌, subst, inl, inr, arith}
use Rattle.std.proofs.ByRecursion.{All-get_or}
use Rattle.std.proofs.lemmas.List.{get_or_append_left, get_or_past, get_or_push, get_or-set_same, get_or-set_other, length-set}
use Rattle.std.proofs.lemmas.Bool.{cases_lt, and_parts, ltb-true, false≢true}
use Rattle.logic.specs.declared.records.Node.{Node}
use Rattle.logic.specs.declared.records.Entry.{Entry}
use Rattle.logic.specs.declared.records.Entry.TheVariants.{Inclusion, Fact, RoleFact, Absent}
use Rattle.logic.specs.declared.records.StoredEntry.{StoredEntry}
use Rattle.logic.specs.Books.{Book, concept, stored_at, no_stored_entry, with_node, with_entry, with_strike, struck}
use Rattle.logic.specs.Lawful.{Lawful, entry_well_formed, entry_operands_below}
use Rattle.logic.specs.Models.{Model, Sat}
use Rattle.logic.specs.Satisfaction.{Live, HoldsIn, Satisfies}
use Rattle.logic.proofs.Lawfulness.{entry_parts}
use Rattle.logic.proofs.Reading.{concepts_stay}

-- the entry at place i is there
abbrev pub live_at : Book → ℕ → Bool
live_at bk i = (stored_at bk i).live

abbrev pub entry_at : Book → ℕ → Entry
entry_at bk i = (stored_at bk i).entry

-- a live entry, by its place
pub live_entry : (bk : Book) (i : ℕ) → live_at bk i ≡ true → Live bk i (entry_at bk i)
live_entry bk i h = λ t. record { entry = entry_at bk i; live = h t }

pub live_there : (bk : Book) (i : ℕ) → live_at bk i ≡ true → i < length bk.entries
live_there bk i h = elim (cases_lt i (length bk.entries)) [
  | inl l ↦ l
  | inr l ↦ absurd (false≢true (sym (ap (λ (k : StoredEntry). k.live) (get_or_past bk.entries i no_stored_entry l)) ∙ h))
]

-- a model satisfies a book where every live entry, by its place, is true
pub satisfies_at : (m : Model) (bk : Book) → ((i : ℕ) → live_at bk i ≡ true → HoldsIn m bk (entry_at bk i)) → Satisfies m bk
satisfies_at m bk h i e live =
    subst (HoldsIn m bk) (ap (λ (k : StoredEntry). k.entry) live) (h i (ap (λ (k : StoredEntry). k.live) live))

pub holds_at : (m : Model) (bk : Book) → Satisfies m bk → (i : ℕ) → live_at bk i ≡ true → HoldsIn m bk (entry_at bk i)
holds_at m bk s i h = s i (entry_at bk i) (live_entry bk i h)

-- two books that read the concepts of an entry's nodes alike agree on whether it is true
holds_alike : (m : Model) (bk ck : Book) (n : ℕ) → ((c : ℕ) → c < n → concept ck c ≡ concept bk c) → (e : Entry) → entry_operands_below n e ≡ true → HoldsIn m bk e → HoldsIn m ck e
holds_alike m bk ck n alike (Inclusion c d) b h =
    let p = and_parts _ _ b in
    λ x l u. subst (λ k. Sat m k x) (sym (alike d (ltb-true d n p.1))) (h x l (subst (λ k. Sat m k x) (alike c (ltb-true c n p.0)) u))
holds_alike m bk ck n alike (Fact x c) b h = subst (λ k. Sat m k (m.individual x)) (sym (alike c (ltb-true c n b))) h
holds_alike m bk ck n alike (RoleFact r x y) b h = h
holds_alike m bk ck n alike Absent b h = h

operands_there : (bk : Book) → Lawful bk → (i : ℕ) → live_at bk i ≡ true → entry_operands_below (length bk.nodes) (entry_at bk i) ≡ true
operands_there bk lawful i h =
    (entry_parts (length bk.nodes) (entry_at bk i)
    (All-get_or (λ l. entry_well_formed (length bk.nodes) l.entry ≡ true) bk.entries i no_stored_entry (live_there bk i h) lawful.well_formed.entries)).2

-- one entry more leaves the entries before it
pub enter_before : (bk : Book) (e : Entry) (i : ℕ) → i < length bk.entries → stored_at (with_entry bk e) i ≡ stored_at bk i
enter_before bk e i h = get_or_append_left bk.entries _ no_stored_entry i h

pub enter_here : (bk : Book) (e : Entry) (i : ℕ) → length bk.entries ≡ i → live_at (with_entry bk e) i ≡ true
enter_here bk e i h = ap (λ (k : StoredEntry). k.live) (get_or_push bk.entries (record { entry = e; live = true }) no_stored_entry i h)

-- a strike leaves the other entries, and the entry of its own
pub strike_other : (bk : Book) (j i : ℕ) → (i ≡ j → ⊥) → stored_at (with_strike bk j) i ≡ stored_at bk i
strike_other bk j i ne = get_or-set_other bk.entries j i (struck (stored_at bk j)) no_stored_entry ne

pub strike_here : (bk : Book) (j : ℕ) → live_at (with_strike bk j) j ≡ false
strike_here bk j = elim (cases_lt j (length bk.entries)) [
  | inl l ↦ ap (λ (k : StoredEntry). k.live) (get_or-set_same bk.entries j (struck (stored_at bk j)) no_stored_entry l)
  | inr l ↦ ap (λ (k : StoredEntry). k.live) (get_or_past (with_strike bk j).entries j no_stored_entry (omega (arith, length-set bk.entries j (struck (stored_at bk j)))))
]

-- so what is live after it is another entry
pub strike_apart : (bk : Book) (j i : ℕ) → live_at (with_strike bk j) i ≡ true → i ≡ j → ⊥
strike_apart bk j i h e = false≢true (sym (strike_here bk j) ∙ ap (live_at (with_strike bk j)) (sym e) ∙ h)

-- entry i is the same in two books, and its entry is true in the same models
pub record Same (bk ck : Book) (i : ℕ) : Type 0 where
  pub stored : stored_at ck i ≡ stored_at bk i
  pub holds : (m : Model) → HoldsIn m ck (entry_at bk i) ↔ HoldsIn m bk (entry_at bk i)

pub same_node : (bk : Book) (n : Node) → Lawful bk → (i : ℕ) → live_at bk i ≡ true → Same bk (with_node bk n) i
same_node bk n lawful i h =
    let below = operands_there bk lawful i h in
    let stay = concepts_stay bk.nodes (n ∷ []) in
    record {
      stored = refl;
      holds = λ m. (
        holds_alike m (with_node bk n) bk (length bk.nodes) (λ c l. sym (stay c l)) (entry_at bk i) below,
        holds_alike m bk (with_node bk n) (length bk.nodes) stay (entry_at bk i) below,
      );
    }

pub same_enter : (bk : Book) (e : Entry) (i : ℕ) → live_at bk i ≡ true → Same bk (with_entry bk e) i
same_enter bk e i h = record { stored = enter_before bk e i (live_there bk i h); holds = λ m. (λ t. t, λ t. t) }

pub same_strike : (bk : Book) (j i : ℕ) → (i ≡ j → ⊥) → Same bk (with_strike bk j) i
same_strike bk j i ne = record { stored = strike_other bk j i ne; holds = λ m. (λ t. t, λ t. t) }

-- a model stays one where the live lines are lines that were there
pub model_lasts : (bk ck : Book) (m : Model) → Satisfies m bk → ((i : ℕ) → live_at ck i ≡ true → Same bk ck i) → Satisfies m ck
model_lasts bk ck m sat same = satisfies_at m ck (λ i l.
    let s = same i l in
    subst (λ (k : StoredEntry). HoldsIn m ck k.entry) (sym s.stored) ((s.holds m).1 (holds_at m bk sat i (sym (ap (λ (k : StoredEntry). k.live) s.stored) ∙ l))))

-- the entries of a set are live, and no model makes all of them true
pub record Core (bk : Book) (used : ℕ → Bool) : Type 0 where
  pub live : (i : ℕ) → used i ≡ true → live_at bk i ≡ true
  pub none : (m : Model) → ((i : ℕ) → used i ≡ true → HoldsIn m bk (entry_at bk i)) → ⊥

-- so no model satisfies the book
pub core_no_model : (bk : Book) (used : ℕ → Bool) → Core bk used → (m : Model) → Satisfies m bk → ⊥
core_no_model bk used c m s = c.none m (λ i u. holds_at m bk s i (c.live i u))

-- a core stays one where its entries stay
pub core_lasts : (bk ck : Book) (used : ℕ → Bool) → Core bk used → ((i : ℕ) → used i ≡ true → Same bk ck i) → Core ck used
core_lasts bk ck used c same = record {
  live = λ i u. ap (λ (k : StoredEntry). k.live) (same i u).stored ∙ c.live i u;
  none = λ m h. c.none m (λ i u. ((same i u).holds m).0 (subst (λ (k : StoredEntry). HoldsIn m ck k.entry) (same i u).stored (h i u)));
}
