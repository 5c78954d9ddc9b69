-- Lawfulness is decided, so that a book that is lawful at all has the evidence of it. Assumes nothing.
use Rattle.std.proofs.Common.{◌≡◌, ℕ, zero, suc, ◌<◌, Bool, true, false, List, [], ◌∷◌, length, refl, subst, arith}
use mathlib.Core.Logic.Dec
use mathlib.Core.Logic.{∥∥₁_elim}
use native.Mathlib.Decide.{dec_le, dec_lt}
use Rattle.std.specs.List.{AllByRecursion}
use Rattle.std.proofs.lemmas.Bool.{false≢true}
use Rattle.logic.specs.Concepts.{concepts}
use Rattle.logic.specs.Books.{Book, node_at}
use Rattle.logic.specs.Lawful.{node_well_formed, node_typicality_allowed, entry_well_formed, entry_typicality_allowed, WellFormed, TypicalityInPlace, Lawful}

pub true_dec : (b : Bool) → Dec (b ≡ true)
true_dec true = yes refl
true_dec false = no false≢true

-- what holds of each number below n, and of n, holds of each below suc n
pub and_last : (P : ℕ → Type 0) (n : ℕ) → ((y : ℕ) → y < n → P y) → P n → (y : ℕ) → y < suc n → P y
and_last P n f p y h = go (dec_lt y n)
  where
    go : Dec (y < n) → P y
    go (yes lt) = f y lt
    go (no ge) = let e : n ≡ y = omega arith in subst P e p

-- a decided property holds of each number below n, or not
pub below_dec : (P : ℕ → Type 0) → ((y : ℕ) → Dec (P y)) → (n : ℕ) → Dec ((y : ℕ) → y < n → P y)
below_dec P d zero = yes (λ y h. absurd (omega arith))
below_dec P d (suc n) = go (d n) (below_dec P d n)
  where
    go : Dec (P n) → Dec ((y : ℕ) → y < n → P y) → Dec ((y : ℕ) → y < suc n → P y)
    go (yes p) (yes r) = yes (and_last P n r p)
    go (yes p) (no r) = no (λ f. r (λ y h. f y (omega arith)))
    go (no q) r = no (λ f. q (f n (omega arith)))

-- a decided property holds of each element, or not
all_dec : {A : Type 0} (P : A → Type 0) → ((x : A) → Dec (P x)) → (xs : List A) → Dec (AllByRecursion P xs)
all_dec P d [] = yes tt
all_dec P d (x ∷ xs) = Dec.and (d x) (all_dec P d xs)

well_formed_dec : (bk : Book) → Dec (WellFormed bk)
well_formed_dec bk =
    Dec.of_iff
    (λ h. record { few_nodes = h.0.0; few_entries = h.0.1; nodes = h.1.0; entries = h.1.1 }, λ w. ((w.few_nodes, w.few_entries), (w.nodes, w.entries)))
    (Dec.and
    (Dec.and (dec_le (length bk.nodes) 512) (dec_le (length bk.entries) 256))
    (Dec.and
    (below_dec (λ i. node_well_formed i (node_at bk i) ≡ true) (λ i. true_dec (node_well_formed i (node_at bk i))) (length bk.nodes))
    (all_dec (λ l. entry_well_formed (length bk.nodes) l.entry ≡ true) (λ l. true_dec (entry_well_formed (length bk.nodes) l.entry)) bk.entries)))

in_place_dec : (bk : Book) → Dec (TypicalityInPlace bk)
in_place_dec bk =
    Dec.of_iff
    (λ h. record { nodes = h.0; entries = h.1 }, λ t. (t.nodes, t.entries))
    (Dec.and
    (below_dec (λ i. node_typicality_allowed (concepts bk.nodes) (node_at bk i) ≡ true) (λ i. true_dec (node_typicality_allowed (concepts bk.nodes) (node_at bk i))) (length bk.nodes))
    (all_dec (λ l. entry_typicality_allowed (concepts bk.nodes) l.entry ≡ true) (λ l. true_dec (entry_typicality_allowed (concepts bk.nodes) l.entry)) bk.entries))

pub lawful_dec : (bk : Book) → Dec (Lawful bk)
lawful_dec bk =
    Dec.of_iff
    (λ h. record { well_formed = h.0; in_place = h.1 }, λ l. (l.well_formed, l.in_place))
    (Dec.and (well_formed_dec bk) (in_place_dec bk))

-- the evidence of a book of which it is known that it is lawful
pub lawful_known : (bk : Book) → ∥ Lawful bk ∥₁ → Lawful bk
lawful_known bk h = go (lawful_dec bk)
  where
    go : Dec (Lawful bk) → Lawful bk
    go (yes l) = l
    go (no n) = absurd (∥∥₁_elim h (λ a b. absurd a) n)
