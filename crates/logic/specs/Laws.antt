-- What is proved of books and of models.
-- ConceptsStay: appended nodes leave earlier concepts unchanged.
-- MembershipDecided: an element is in a concept or it is not.
-- Admitted: if an element admits a concept, some better element is in it.
-- MinimalExists: if some better element has a property, a minimal one does.
-- Assumes nothing.
use Rattle.std.specs.Prelude.{◌≡◌, ℕ, ◌<◌, Bool, true, List, ◌++◌, length}
use Rattle.logic.specs.declared.records.Node.{Node}
use Rattle.logic.specs.Concepts.{Concept, of, concepts}
use Rattle.logic.specs.Models.{Model, Sat, NoneBetter, Admits}

-- appended nodes leave the concepts of the nodes before them unchanged
abbrev pub ConceptsStay : Type 0
ConceptsStay = (ns ms : List Node) (i : ℕ) → i < length ns → of (concepts (ns ++ ms)) i ≡ of (concepts ns) i

-- an element is in a concept or it is not
abbrev pub MembershipDecided : Type 0
MembershipDecided = (m : Model) (c : Concept) (x : ℕ) → Dec (Sat m c x)

-- if x admits c, a better element is in c
abbrev pub Admitted : Type 0
Admitted = (m : Model) (c : Concept) (x : ℕ) → Admits m c x → (y : ℕ) × (y < m.size) × (m.better y x ≡ true) × Sat m c y

-- p is a decidable property of elements: if one better than x has it, a minimal one does
abbrev pub MinimalExists : Type 0
MinimalExists =
    (m : Model) (p : ℕ → Bool) (x : ℕ) → x < m.size →
    (y : ℕ) → y < m.size → m.better y x ≡ true → p y ≡ true →
    (z : ℕ) × (z < m.size) × (m.better z x ≡ true) × (p z ≡ true) × NoneBetter m (λ u. p u ≡ true) z
