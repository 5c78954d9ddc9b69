-- What a working list of sets holds.
-- Zeros: only zeros. HasNodeMasks: the mask of each node, and then zeros. HasNodeSets: they are the sets of a model.
-- NodeSetsAnswer: what filling a list answers.
-- Assumes nothing.
use Rattle.std.specs.Prelude.{◌≡◌, ℕ, ◌<◌, ◌≤◌, List, length, Ok, Err, Result, slice_index}
use Rattle.logic.specs.declared.refusal.BadLength.{BadLength}
use Rattle.logic.specs.Lengths.{bad_length_number, bad_length_place}
use Rattle.logic.specs.Books.{Book, node_at, concept}
use Rattle.logic.specs.Models.{Model}
use Rattle.orders.specs.Masks.{Preference}
use Rattle.models.specs.Interpretations.{Interpretation}
use Rattle.models.specs.Meanings.{Compatible, model_of}
use Rattle.models.specs.Extensions.{Extension}
use Rattle.models.specs.NodeMasks.{MaskOfNode}

-- zero at every place
abbrev pub Zeros : List ℕ → Type 0
Zeros list = (i : ℕ) → slice_index list i ≡ 0

-- At the place of each node is its mask, by those of its operands; zeros follow. Since the operands of a node precede
-- it, there is only one such list of each length, whatever the order and the interpretation.
pub record HasNodeMasks (bk : Book) (i : Interpretation) (o : Preference) (list : List ℕ) : Type 0 where
  pub masks : (k : ℕ) → k < length bk.nodes → MaskOfNode i o list (node_at bk k) (slice_index list k)
  pub rest : (k : ℕ) → length bk.nodes ≤ k → slice_index list k ≡ 0

-- the set of each node of the book, and then zeros
pub record HasNodeSets (m : Model) (bk : Book) (list : List ℕ) : Type 0 where
  pub sets : (i : ℕ) → i < length bk.nodes → Extension m (concept bk i) (slice_index list i)
  pub rest : (i : ℕ) → length bk.nodes ≤ i → slice_index list i ≡ 0

-- The masks, whatever the order. They are sets of a model only if the order has the interpretation's elements: then
-- they are those of the model that the two mean. Or, if the list has no place for some node, refusal 17 with its
-- length, and zeros.
abbrev pub NodeSetsAnswer : Book → Interpretation → Preference → List ℕ → Result (Unit {0}) (BadLength 17) → Type 0
NodeSetsAnswer bk i o list (Ok u) = (length bk.nodes ≤ length list) × HasNodeMasks bk i o list × ((f : Compatible i o) → HasNodeSets (model_of i o f) bk list)
NodeSetsAnswer bk i o list (Err e) = (length list < length bk.nodes) × (bad_length_number e ≡ 17) × (bad_length_place e ≡ length list) × Zeros list
