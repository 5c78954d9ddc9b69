-- The entries that steps name. Assumes nothing.
use Rattle.std.proofs.Common.{◌≡◌, ℕ, true, false, ◌&&◌, ◌||◌, eqb, ◌⊎◌, List, [], ◌∷◌, ◌++◌, sym, refl, ap, ◌∙◌}
use mathlib.Core.Bool.{or_assoc}
use Rattle.std.proofs.lemmas.Bool.{or_cases, or_left, or_right, eq-eqb}
use Rattle.logic.specs.declared.tableau.Step.{Step}
use Rattle.logic.specs.Tableaux.{names}

-- a list of steps names what its parts name
names-append : (xs ys : List Step) (i : ℕ) → names (xs ++ ys) i ≡ (names xs i || names ys i)
names-append [] ys i = refl
names-append (s ∷ xs) ys i =
    let first = (eqb s.op 1 || eqb s.op 2) && eqb s.a i in
    ap (λ b. first || b) (names-append xs ys i) ∙ sym (or_assoc first (names xs i) (names ys i))

pub names_left : (xs ys : List Step) (i : ℕ) → names xs i ≡ true → names (xs ++ ys) i ≡ true
names_left xs ys i h = names-append xs ys i ∙ or_left (names xs i) (names ys i) h

pub names_right : (xs ys : List Step) (i : ℕ) → names ys i ≡ true → names (xs ++ ys) i ≡ true
names_right xs ys i h = names-append xs ys i ∙ or_right (names xs i) (names ys i) h

pub names_cases : (xs ys : List Step) (i : ℕ) → names (xs ++ ys) i ≡ true → (names xs i ≡ true) ⊎ (names ys i ≡ true)
names_cases xs ys i h = or_cases (names xs i) (names ys i) (sym (names-append xs ys i) ∙ h)

-- a step of op 1 or 2 with operand a names entry a
pub names_own : (a : ℕ) → (eqb a a || false) ≡ true
names_own a = or_left (eqb a a) false (eq-eqb a a refl)
