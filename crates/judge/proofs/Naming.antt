-- The marks of steps are the entries that they name. Assumes nothing.
use Rattle.std.proofs.Common.{◌≡◌, ℕ, zero, suc, ◌+◌, ◌<◌, ◌≤◌, Bool, true, false, cond, ◌&&◌, ◌||◌, eqb, List, [], ◌∷◌, length, count_by, get_or, take, set, replicate, sym, refl, ap, ◌∙◌, subst, ⊎_elim, add_comm, add-one, arith}
use Rattle.std.specs.List.{fold}
use Rattle.std.proofs.lemmas.List.{get_or-set_same, get_or-set_other, get_or_past, get_or-replicate, length-set, take_all}
use Rattle.std.proofs.lemmas.List.Sums.{sum_by_more}
use Rattle.std.proofs.lemmas.Bool.{cases_eq, cases_lt, cases_Bool, eq-eqb, ne_eqb}
use Rattle.logic.specs.declared.tableau.Step.{Step}
use Rattle.logic.specs.Books.{Book}
use Rattle.logic.specs.Branches.{start}
use Rattle.logic.specs.Tableaux.{Closed, writing, names, named_below, named_count}
use Rattle.logic.proofs.NamedLive.{named_live}
use Rattle.judge.specs.Members.{with_named, marks_of}
use Rattle.judge.proofs.Agreeing.{live_within}

-- one mark more
set_mark : (xs : List Bool) (a i : ℕ) → i < length xs → get_or (set xs a true) i false ≡ (eqb a i || get_or xs i false)
set_mark xs a i h =
    ⊎_elim
    (λ (e : a ≡ i). let l : a < length xs = omega arith in rw (eq-eqb a i e) (rw (sym e) (get_or-set_same xs a true false l)))
    (λ (ne : a ≡ i → ⊥). rw (ne_eqb a i ne) (get_or-set_other xs a i true false (λ e. ne (sym e))))
    (cases_eq a i)

noted_at : (xs : List Bool) (s : Step) (i : ℕ) → i < length xs → get_or (with_named xs s) i false ≡ (((eqb s.op 1 || eqb s.op 2) && eqb s.a i) || get_or xs i false)
noted_at xs s i h = go (eqb s.op 1 || eqb s.op 2)
  where
    go : (b : Bool) → get_or (cond b (set xs s.a true) xs) i false ≡ ((b && eqb s.a i) || get_or xs i false)
    go true = set_mark xs s.a i h
    go false = refl

noted_length : (xs : List Bool) (s : Step) → length (with_named xs s) ≡ length xs
noted_length xs s = go (eqb s.op 1 || eqb s.op 2)
  where
    go : (b : Bool) → length (cond b (set xs s.a true) xs) ≡ length xs
    go true = length-set xs s.a true
    go false = refl

all_length : (ss : List Step) (xs : List Bool) → length (fold with_named xs ss) ≡ length xs
all_length [] xs = refl
all_length (s ∷ ss) xs = all_length ss (with_named xs s) ∙ noted_length xs s

swap : (a b c : Bool) → ((a || b) || c) ≡ (b || (a || c))
swap true true c = refl
swap true false c = refl
swap false true c = refl
swap false false c = refl

or_false : (b : Bool) → (b || false) ≡ b
or_false true = refl
or_false false = refl

all_at : (ss : List Step) (xs : List Bool) (i : ℕ) → i < length xs → get_or (fold with_named xs ss) i false ≡ (get_or xs i false || names ss i)
all_at [] xs i h = sym (or_false (get_or xs i false))
all_at (s ∷ ss) xs i h =
    let l : length (with_named xs s) ≡ length xs = noted_length xs s in
    all_at ss (with_named xs s) i (omega arith)
    ∙ ap (λ v. v || names ss i) (noted_at xs s i h)
    ∙ swap ((eqb s.op 1 || eqb s.op 2) && eqb s.a i) (get_or xs i false) (names ss i)

-- marks that are the names, counted
module _ (xs : List Bool) (ss : List Step) (same : (i : ℕ) → i < length xs → get_or xs i false ≡ names ss i) where
  marks_below : (k : ℕ) → k ≤ length xs → count_by (λ mark. mark) (take k xs) ≡ named_below k ss
  marks_below zero h = refl
  marks_below (suc k) h =
      ap (λ n. count_by (λ mark. mark) (take n xs)) (sym (add-one k))
      ∙ sum_by_more (λ mark. cond mark 1 0) xs k false (omega arith)
      ∙ (λ i. marks_below k (omega arith) i + cond (same k (omega arith) i) 1 0)
      ∙ add_comm (named_below k ss) (cond (names ss k) 1 0)

module _ (bk : Book) (few : length bk.entries ≤ 256) (ss : List Step) (t : Closed bk start) (w : writing t ≡ ss) where
  -- past the last entry nothing is named
  none_past : (i : ℕ) → 256 ≤ i → names ss i ≡ false
  none_past i h =
      ⊎_elim
      (λ (e : names ss i ≡ true).
      let l = named_live bk t i (subst (λ v. names v i ≡ true) (sym w) e) in
      let k : i < length bk.entries = live_within bk i l.0 l.1 in absurd (omega arith))
      (λ e. e)
      (cases_Bool (names ss i))

  long : length (marks_of ss) ≡ 256
  long = all_length ss (replicate 256 false)

  within : (i : ℕ) → i < length (marks_of ss) → get_or (marks_of ss) i false ≡ names ss i
  within i h =
      let l : i < 256 = (let e = long in omega arith) in
      all_at ss (replicate 256 false) i l ∙ ap (λ v. v || names ss i) (get_or-replicate 256 i false false l)

  pub marks_named : (i : ℕ) → get_or (marks_of ss) i false ≡ names ss i
  marks_named i =
      ⊎_elim
      (λ (h : i < length (marks_of ss)). within i h)
      (λ (h : length (marks_of ss) ≤ i). get_or_past (marks_of ss) i false h ∙ sym (none_past i (let e = long in omega arith)))
      (cases_lt i (length (marks_of ss)))

  pub marks_counted : count_by (λ mark. mark) (marks_of ss) ≡ named_count ss
  marks_counted =
      ap (λ ms. count_by (λ mark. mark) ms) (sym (take_all 256 (marks_of ss) (let l = long in omega arith)))
      ∙ marks_below (marks_of ss) ss within 256 (let l = long in omega arith)
