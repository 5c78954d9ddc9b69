-- Membership in a concept is decided, and an admitted concept has a better element. Assumes nothing.
use Rattle.std.proofs.Common.{◌≡◌, ℕ, zero, suc, ◌<◌, true, ◌⊎◌, inl, inr, ⊎_elim, arith}
use mathlib.Core.Logic.Dec
use Rattle.logic.specs.Concepts.{top, bottom, atom, not, and, or, all, some, typical}
use Rattle.logic.specs.Models.{Sat}
use Rattle.logic.specs.Laws.{MembershipDecided, Admitted}
use Rattle.logic.proofs.Deciding.{true_dec, and_last, below_dec}

either : {P Q : Type 0} → Dec P → Dec Q → Dec (P ⊎ Q)
either (yes p) q = yes (inl p)
either (no n) (yes q) = yes (inr q)
either (no n) (no k) = no (λ s. ⊎_elim n k s)

implies : {P Q : Type 0} → Dec P → Dec Q → Dec (P → Q)
implies p (yes q) = yes (λ _. q)
implies (yes p) (no k) = no (λ f. k (f p))
implies (no n) (no k) = yes (λ p. absurd (n p))

-- some number below n has a decided property, or none has
some_dec : (P : ℕ → Type 0) → ((y : ℕ) → Dec (P y)) → (n : ℕ) → Dec ((y : ℕ) × (y < n) × P y)
some_dec P d zero = no (λ w. omega (arith, w.1))
some_dec P d (suc n) = go (d n) (some_dec P d n)
  where
    go : Dec (P n) → Dec ((y : ℕ) × (y < n) × P y) → Dec ((y : ℕ) × (y < suc n) × P y)
    go (yes p) r = yes (n, omega arith, p)
    go (no q) (yes w) = yes (w.0, omega (arith, w.1), w.2)
    go (no q) (no r) = no (λ w. and_last (λ y. P y → ⊥) n (λ y h p. r (y, h, p)) q w.0 w.1 w.2)

-- some number below n has two decided properties, or none has both
related_dec : (n : ℕ) (R : ℕ → Type 0) (P : ℕ → Type 0) → ((y : ℕ) → Dec (R y)) → ((y : ℕ) → Dec (P y)) → Dec ((y : ℕ) × (y < n) × R y × P y)
related_dec n R P r d =
    Dec.of_iff (λ w. (w.0, w.1, w.2.0, w.2.1), λ w. (w.0, w.1, (w.2, w.3)))
    (some_dec (λ y. R y × P y) (λ y. Dec.and (r y) (d y)) n)

pub membership_decided : MembershipDecided
membership_decided m top x = yes tt
membership_decided m bottom x = no (λ t. t)
membership_decided m (atom a) x = true_dec (m.atoms a x)
membership_decided m (not c) x = Dec.not (membership_decided m c x)
membership_decided m (and c d) x = Dec.and (membership_decided m c x) (membership_decided m d x)
membership_decided m (or c d) x = either (membership_decided m c x) (membership_decided m d x)
membership_decided m (all r c) x =
    below_dec (λ y. m.roles r x y ≡ true → Sat m c y)
    (λ y. implies (true_dec (m.roles r x y)) (membership_decided m c y)) m.size
membership_decided m (some r c) x =
    related_dec m.size (λ y. m.roles r x y ≡ true) (λ y. Sat m c y) (λ y. true_dec (m.roles r x y)) (λ y. membership_decided m c y)
membership_decided m (typical c) x =
    Dec.and (membership_decided m c x)
    (below_dec (λ y. m.better y x ≡ true → Sat m c y → ⊥)
    (λ y. implies (true_dec (m.better y x)) (Dec.not (membership_decided m c y))) m.size)

pub admitted : Admitted
admitted m c x admits = go (related_dec m.size (λ y. m.better y x ≡ true) (λ y. Sat m c y) (λ y. true_dec (m.better y x)) (λ y. membership_decided m c y))
  where
    go : Dec ((y : ℕ) × (y < m.size) × (m.better y x ≡ true) × Sat m c y) → (y : ℕ) × (y < m.size) × (m.better y x ≡ true) × Sat m c y
    go (yes w) = w
    go (no none) = absurd (admits (λ y h t p. none (y, h, t, p)))
