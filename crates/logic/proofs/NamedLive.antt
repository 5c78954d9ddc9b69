-- The entries that a closed tableau names are live. Assumes nothing.
use Rattle.std.proofs.Common.{◌≡◌, ℕ, true, false, ◌||◌, eqb, [], ◌∷◌, ◌++◌, subst, ⊎_elim}
use Rattle.std.proofs.lemmas.Bool.{or_cases, eqb-true, false≢true}
use Rattle.logic.specs.declared.records.Entry.{Entry}
use Rattle.logic.specs.declared.tableau.Step.{Step}
use Rattle.logic.specs.Books.{Book}
use Rattle.logic.specs.Satisfaction.{Live}
use Rattle.logic.specs.Branches.{Branch}
use Rattle.logic.specs.Rules.{Extends, fact, role_fact, not_holds, not_fails, and_holds, or_fails, some_holds, all_fails, all_holds, some_fails, typical_holds, admits, bars, Splits, inclusion, or_holds, and_fails, typical_fails, Closes, holds_and_fails, bars_and_admits, bottom_holds, top_fails}
use Rattle.logic.specs.Tableaux.{Closed, close, extend, split, writing, names}
use Rattle.logic.specs.Soundness.{NamedLive}
use Rattle.logic.proofs.Naming.{names_cases}

module _ (bk : Book) (i : ℕ) where
  abbrev Found : ℕ → Type 0
  Found j = (e : Entry) × Live bk j e

  own : (a : ℕ) → Found a → (eqb a i || false) ≡ true → Found i
  own a f h = ⊎_elim (λ t. subst Found (eqb-true a i t) f) (λ t. absurd (false≢true t)) (or_cases (eqb a i) false h)

  by_extends : {br b : Branch} {s : Step} → Extends bk br s b → names (s ∷ []) i ≡ true → Found i
  by_extends (fact {a = a} live) h = own a (_, live) h
  by_extends (role_fact {a = a} live) h = own a (_, live) h
  by_extends (not_holds says is) h = absurd (false≢true h)
  by_extends (not_fails says is) h = absurd (false≢true h)
  by_extends (and_holds says is) h = absurd (false≢true h)
  by_extends (or_fails says is) h = absurd (false≢true h)
  by_extends (some_holds says is) h = absurd (false≢true h)
  by_extends (all_fails says is) h = absurd (false≢true h)
  by_extends (all_holds says is leads) h = absurd (false≢true h)
  by_extends (some_fails says is leads) h = absurd (false≢true h)
  by_extends (typical_holds says is) h = absurd (false≢true h)
  by_extends (admits says) h = absurd (false≢true h)
  by_extends (bars says leads) h = absurd (false≢true h)

  by_splits : {br left right : Branch} {s : Step} → Splits bk br s left right → names (s ∷ []) i ≡ true → Found i
  by_splits (inclusion {a = a} live within) h = own a (_, live) h
  by_splits (or_holds says is) h = absurd (false≢true h)
  by_splits (and_fails says is) h = absurd (false≢true h)
  by_splits (typical_fails says is) h = absurd (false≢true h)

  by_closes : {br : Branch} {s : Step} → Closes bk br s → names (s ∷ []) i ≡ true → Found i
  by_closes (holds_and_fails p q) h = absurd (false≢true h)
  by_closes (bars_and_admits p q) h = absurd (false≢true h)
  by_closes (bottom_holds says is) h = absurd (false≢true h)
  by_closes (top_fails says is) h = absurd (false≢true h)

  found : {br : Branch} (t : Closed bk br) → names (writing t) i ≡ true → Found i
  found (close r) h = by_closes r h
  found (extend {s = s} r t) h = ⊎_elim (by_extends r) (found t) (names_cases (s ∷ []) (writing t) i h)
  found (split {s = s} r t u) h =
      ⊎_elim (by_splits r)
      (λ k. ⊎_elim (found t) (found u) (names_cases (writing t) (writing u) i k))
      (names_cases (s ∷ []) (writing t ++ writing u) i h)

pub named_live : NamedLive
named_live bk t i h = found bk i t h
