-- Finite preferential models, and which elements are in a concept.
-- Model: a domain with a set for each concept name, a relation for each role, an element for each
-- individual, and a strict preference among the elements. Sat: an element is in a concept.
-- Bars: no better element is in a concept. Admits: not barred.
-- Assumes nothing.
use Rattle.std.specs.Prelude.{◌≡◌, ℕ, ◌<◌, ◌≤◌, Bool, true, false, ◌⊎◌}
use Rattle.logic.specs.Bounds.{individual_limit}
use Rattle.logic.specs.Concepts.{Concept, top, bottom, atom, not, and, or, all, some, typical}

-- The elements are the numbers below size. Two individuals may be one element.
-- better y x says that y is better than x.
pub record Model : Type 0 where
  pub size : ℕ
  pub inhabited : 1 ≤ size
  pub atoms : ℕ → ℕ → Bool
  pub roles : ℕ → ℕ → ℕ → Bool
  pub individual : ℕ → ℕ
  pub individual_within : (a : ℕ) → a < individual_limit → individual a < size
  pub better : ℕ → ℕ → Bool
  pub irreflexive : (x : ℕ) → x < size → better x x ≡ false
  pub transitive : (x y z : ℕ) → x < size → y < size → z < size → better z y ≡ true → better y x ≡ true → better z x ≡ true

-- no element that is better than x has the property
abbrev pub NoneBetter : Model → (ℕ → Type 0) → ℕ → Type 0
NoneBetter m P x = (y : ℕ) → y < m.size → m.better y x ≡ true → P y → ⊥

-- element x is in the concept
abbrev pub Sat : Model → Concept → ℕ → Type 0
Sat m top x = Unit {0}
Sat m bottom x = ⊥
Sat m (atom a) x = m.atoms a x ≡ true
Sat m (not c) x = Sat m c x → ⊥
Sat m (and c d) x = Sat m c x × Sat m d x
Sat m (or c d) x = Sat m c x ⊎ Sat m d x
Sat m (all r c) x = (y : ℕ) → y < m.size → m.roles r x y ≡ true → Sat m c y
Sat m (some r c) x = (y : ℕ) × (y < m.size) × (m.roles r x y ≡ true) × Sat m c y
Sat m (typical c) x = Sat m c x × NoneBetter m (λ y. Sat m c y) x

-- no element that is better than x is in the concept
abbrev pub Bars : Model → Concept → ℕ → Type 0
Bars m c x = NoneBetter m (λ y. Sat m c y) x

-- not barred
abbrev pub Admits : Model → Concept → ℕ → Type 0
Admits m c x = Bars m c x → ⊥
