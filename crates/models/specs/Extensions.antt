-- The elements that are in a concept, as masks.
-- Extension: a mask is the set of a concept. HaveSets: a list has the sets of concepts. SetOfNode: a
-- mask is the set of a node's concept. TruthOf: a test tells whether an entry is true. Complement: the
-- elements that are not in a set. SomeSuccessorIn: those from which a role leads into it. Best, BestOf: the typical
-- elements of a set.
-- Assumes nothing.
use Rattle.std.specs.Prelude.{◌≡◌, ℕ, ◌<◌, Bool, true, not, ◌&&◌, ◌↔◌, List, nat_lt, slice_index}
use Rattle.logic.specs.declared.records.Node.{Node}
use Rattle.logic.specs.declared.records.Entry.{Entry}
use Rattle.logic.specs.Concepts.{Concept, of, read, concepts}
use Rattle.logic.specs.Books.{Book}
use Rattle.logic.specs.Models.{Model, Sat}
use Rattle.logic.specs.Satisfaction.{HoldsIn}
use Rattle.orders.specs.Masks.{has, Preference}
use Rattle.models.specs.Interpretations.{Interpretation}
use Rattle.models.specs.Meanings.{Compatible, model_of}

-- bit x of the mask is set exactly when x is an element in the concept
abbrev pub Extension : Model → Concept → ℕ → Type 0
Extension m c mask = (x : ℕ) → (has mask x ≡ true) ↔ ((x < m.size) × Sat m c x)

-- the list has the set of each concept, and the empty set past them
abbrev pub HaveSets : Model → List Concept → List ℕ → Type 0
HaveSets m cs list = (i : ℕ) → Extension m (of cs i) (slice_index list i)

-- In every model that the interpretation and the order mean, if the list has the sets of the concepts of
-- the earlier nodes, the mask is the set of the node's concept.
abbrev pub SetOfNode : Interpretation → Preference → List ℕ → Node → ℕ → Type 0
SetOfNode i o list n mask =
    (f : Compatible i o) (cs : List Concept) → HaveSets (model_of i o f) cs list → Extension (model_of i o f) (read cs n) mask

-- In every model that the interpretation means, with any order, and for every book whose nodes have their
-- sets in the list, the test tells whether the entry is true.
abbrev pub TruthOf : Interpretation → List ℕ → Entry → Bool → Type 0
TruthOf i list e test =
    (o : Preference) (f : Compatible i o) (bk : Book) → HaveSets (model_of i o f) (concepts bk.nodes) list →
    (test ≡ true) ↔ HoldsIn (model_of i o f) bk e

-- the mask has exactly the elements that are not in the set
abbrev pub Complement : Interpretation → ℕ → ℕ → Type 0
Complement i set mask = (x : ℕ) → has mask x ≡ (nat_lt x i.size && not (has set x))

-- the mask has exactly the elements from which the role leads into the set
abbrev pub SomeSuccessorIn : Interpretation → ℕ → ℕ → ℕ → Type 0
SomeSuccessorIn i r set mask = (x : ℕ) → (has mask x ≡ true) ↔ ((x < i.size) × ((y : ℕ) × (has (i.successors r x) y ≡ true) × (has set y ≡ true)))

-- element x of the order is in the set, and no better one is
pub record Best (o : Preference) (set x : ℕ) : Type 0 where
  pub within : x < o.size
  pub member : has set x ≡ true
  pub none_better : (y : ℕ) → has (o.better x) y ≡ true → has set y ≡ true → ⊥

-- the mask has exactly the best elements of the set
abbrev pub BestOf : Preference → ℕ → ℕ → Type 0
BestOf o set mask = (x : ℕ) → (has mask x ≡ true) ↔ Best o set x
