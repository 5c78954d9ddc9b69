-- What each change keeps: of the book, that it is what the changes made of it, and of the standing, that it is justified.
-- Assumes nothing.
use Rattle.std.proofs.Common.{◌≡◌, ℕ, Bool, true, List, [], ◌∷◌, map, length, ◌↔◌, IsTrue, sym, refl, ap, ◌∙◌, subst, inl, inr, arith, false, IfSome, if◌then◌else◌}
use Rattle.std.proofs.Math.Seq.{map-set_same}
use Rattle.std.proofs.lemmas.List.{map-append, length_push}
use Rattle.std.proofs.lemmas.Bool.{cases_lt, false≢true}
use Rattle.logic.specs.declared.records.StoredEntry.{StoredEntry}
use Rattle.logic.specs.Books.{Book, empty, stored_at, no_stored_entry, with_node, with_entry, struck, with_strike}
use Rattle.logic.specs.Lawful.{Lawful}
use Rattle.logic.specs.Models.{Model}
use Rattle.logic.specs.Satisfaction.{Satisfies}
use Rattle.logic.specs.Tableaux.{names}
use Rattle.logic.proofs.Lawfulness.{lawful_empty, lawful_with_strike}
use Rattle.docket.specs.Events.{Event}
use Rattle.docket.specs.Changes.{Change, node_came, entry_taken, entry_struck, tableau_accepted, model_accepted, change, book_after, granted_event, standing_after, used_after}
use Rattle.docket.specs.Histories.{nodes_after, entries_after, StandsAfter, granted_nodes, granted_entries, Stands}
use Rattle.docket.proofs.Changes.{live_at, live_there, enter_before, enter_here, strike_other, strike_apart, Core, model_lasts, core_lasts, same_node, same_enter, same_strike, core_no_model}
use Rattle.docket.specs.declared.standing.Standing.{Standing}
use Rattle.docket.specs.declared.standing.Standing.TheVariants.{Open, Refuted, Shown}
use Rattle.docket.specs.Standings.{Occurs}

-- what is known of a change, since the call that made it was granted over the book
abbrev pub Backed : Book → Change → Type 0
Backed bk (node_came n) = Lawful bk → Lawful (with_node bk n)
Backed bk (entry_taken i e) = (i ≡ length bk.entries) × (Lawful bk → Lawful (with_entry bk e))
Backed bk (tableau_accepted ss) = Core bk (names ss)
Backed bk model_accepted = (m : Model) × Satisfies m bk
Backed bk c = Unit {0}

pub record BookKept (h : List Event) (bk : Book) : Type 0 where
  pub lawful : Lawful bk
  pub nodes : bk.nodes ≡ granted_nodes h
  pub entries : map (λ (l : StoredEntry). l.entry) bk.entries ≡ granted_entries h
  pub live : (i : ℕ) → IsTrue (live_at bk i) ↔ Stands i h

lawful_after : (c : Change) (bk : Book) → Backed bk c → Lawful bk → Lawful (book_after c bk)
lawful_after (node_came n) bk b l = b l
lawful_after (entry_taken i e) bk b l = b.1 l
lawful_after (entry_struck i) bk b l = lawful_with_strike bk l i
lawful_after c bk b l = l

nodes_kept : (c : Change) (bk : Book) → (book_after c bk).nodes ≡ nodes_after c bk.nodes
nodes_kept (node_came n) bk = refl
nodes_kept c bk = refl

entries_kept : (c : Change) (bk : Book) → map (λ (l : StoredEntry). l.entry) (book_after c bk).entries ≡ entries_after c (map (λ (l : StoredEntry). l.entry) bk.entries)
entries_kept (entry_taken i e) bk = map-append (λ (l : StoredEntry). l.entry) bk.entries _
entries_kept (entry_struck j) bk = map-set_same (λ (l : StoredEntry). l.entry) bk.entries j (struck (stored_at bk j)) no_stored_entry refl
entries_kept c bk = refl

-- an entry is live after a change exactly when it stands
live_kept : (c : Change) (bk : Book) (i : ℕ) (P : Type 0) → Backed bk c → (IsTrue (live_at bk i) ↔ P) → IsTrue (live_at (book_after c bk) i) ↔ StandsAfter i c P
live_kept (entry_taken n e) bk i P b d = (
  λ l. (elim (cases_lt i (length bk.entries)) [
    | inl before ↦ inr (d.0 (sym (ap (λ (k : StoredEntry). k.live) (enter_before bk e i before)) ∙ l))
    | inr past ↦ inl (omega (arith, b.0, live_there (with_entry bk e) i l, length_push bk.entries (record { entry = e; live = true })))
  ]),
  λ s. (elim s [
    | inl is ↦ enter_here bk e i (sym b.0 ∙ sym is)
    | inr p ↦ (let l = d.1 p in ap (λ (k : StoredEntry). k.live) (enter_before bk e i (live_there bk i l)) ∙ l)
  ]),
)
live_kept (entry_struck j) bk i P b d = (
  λ l. (let apart = strike_apart bk j i l in (apart, d.0 (sym (ap (λ (k : StoredEntry). k.live) (strike_other bk j i apart)) ∙ l))),
  λ s. ap (λ (k : StoredEntry). k.live) (strike_other bk j i s.0) ∙ d.1 s.1,
)
live_kept c bk i P b d = d

pub book_kept : (e : Event) (h : List Event) (bk : Book) → Backed bk (change e) → BookKept h bk → BookKept (e ∷ h) (book_after (change e) bk)
book_kept e h bk b k = record {
  lawful = lawful_after (change e) bk b k.lawful;
  nodes = nodes_kept (change e) bk ∙ ap (nodes_after (change e)) k.nodes;
  entries = entries_kept (change e) bk ∙ ap (entries_after (change e)) k.entries;
  live = λ i. live_kept (change e) bk i (Stands i h) b (k.live i);
}

pub book_new : (bk : Book) → bk ≡ empty → BookKept [] bk
book_new bk same =
    subst (BookKept []) (sym same)
    (record {
      lawful = lawful_empty;
      nodes = refl;
      entries = refl;
      live = λ i. (λ l. false≢true l, λ s. absurd s);
    })

-- what a standing says: refuted, that the entries used are a core, and shown, that there is a model
abbrev pub Justified : Standing → Book → (ℕ → Bool) → Type 0
Justified Open bk used = Unit {0}
Justified Refuted bk used = Core bk used
Justified Shown bk used = (m : Model) × Satisfies m bk

core_struck : (b : Bool) (bk : Book) (j : ℕ) (used : ℕ → Bool) → used j ≡ b → Core bk used → Justified (if b then Open else Refuted) (with_strike bk j) used
core_struck true bk j used is c = tt
core_struck false bk j used is c = core_lasts bk (with_strike bk j) used c (λ i u. same_strike bk j i (λ q. false≢true (sym is ∙ ap used (sym q) ∙ u)))

-- each change leaves a standing that is justified
pub justified_after : (c : Change) (s : Standing) (bk : Book) (used : ℕ → Bool) → Lawful bk → Backed bk c → Justified s bk used → Justified (standing_after (granted_event used c) s) (book_after c bk) (used_after c used)
justified_after (node_came n) Refuted bk used lawful b k = core_lasts bk _ used k (λ i u. same_node bk n lawful i (k.live i u))
justified_after (node_came n) Shown bk used lawful b k = (k.0, model_lasts bk (with_node bk n) k.0 k.1 (λ i l. same_node bk n lawful i l))
justified_after (entry_taken i e) Refuted bk used lawful b k = core_lasts bk _ used k (λ i u. same_enter bk e i (k.live i u))
justified_after (entry_taken i e) Shown bk used lawful b k = tt
justified_after (entry_struck j) Refuted bk used lawful b k = core_struck (used j) bk j used refl k
justified_after (entry_struck j) Shown bk used lawful b k =
    (k.0, model_lasts bk (with_strike bk j) k.0 k.1 (λ i l. same_strike bk j i (strike_apart bk j i l)))
justified_after (tableau_accepted ss) Open bk used lawful b k = b
justified_after (tableau_accepted ss) Refuted bk used lawful b k = b
justified_after model_accepted Open bk used lawful b k = b
justified_after c s bk used lawful b k = k

-- a core and a model exclude each other
pub occurs : (c : Change) (s : Standing) (bk : Book) (used : ℕ → Bool) → Backed bk c → Justified s bk used → IfSome (granted_event used c) (λ event. Occurs event s)
occurs (tableau_accepted ss) Shown bk used b k = core_no_model bk _ b k.0 k.1
occurs model_accepted Refuted bk used b k = core_no_model bk _ k b.0 b.1
occurs c s bk used b k = tt
