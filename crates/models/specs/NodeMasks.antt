-- The mask of a node and the truth of an entry, from the masks that a list has at the places of their operands. This
-- says what is computed, for every list, view and order. If the list has the sets of concepts, and the order and the
-- view mean a model, `Extensions` says what it means.
-- AllSuccessorsIn: the elements from which a role leads only into a set. MaskOfNode: a mask is that of a node.
-- TrueByMasks: an entry is true.
-- Assumes nothing.
use Rattle.std.specs.Prelude.{◌≡◌, ℕ, ◌<◌, true, false, ◌&&◌, ◌||◌, ◌↔◌, List, nat_lt, slice_index}
use Rattle.logic.specs.declared.records.Node.{Node}
use Rattle.logic.specs.declared.records.Node.TheVariants.{Top, Bottom, Name, Not, And, Or, All, Exists, Typical, Absent}
use Rattle.logic.specs.declared.records.Entry.{Entry}
use Rattle.logic.specs.declared.records.Entry.TheVariants as entry
use Rattle.orders.specs.Masks.{has, Includes, Preference}
use Rattle.models.specs.Interpretations.{Interpretation}
use Rattle.models.specs.Extensions.{Complement, SomeSuccessorIn, BestOf}

-- the mask has exactly the elements from which the role leads only into the set
abbrev pub AllSuccessorsIn : Interpretation → ℕ → ℕ → ℕ → Type 0
AllSuccessorsIn i r set mask = (x : ℕ) → (has mask x ≡ true) ↔ ((x < i.size) × ((y : ℕ) → has (i.successors r x) y ≡ true → has set y ≡ true))

-- the mask is that of the node, bit by bit
abbrev pub MaskOfNode : Interpretation → Preference → List ℕ → Node → ℕ → Type 0
MaskOfNode i o list Top mask = (x : ℕ) → has mask x ≡ nat_lt x i.size
MaskOfNode i o list Bottom mask = (x : ℕ) → has mask x ≡ false
MaskOfNode i o list (Name a) mask = (x : ℕ) → has mask x ≡ has (i.names a) x
MaskOfNode i o list (Not c) mask = Complement i (slice_index list c) mask
MaskOfNode i o list (And c d) mask = (x : ℕ) → has mask x ≡ (has (slice_index list c) x && has (slice_index list d) x)
MaskOfNode i o list (Or c d) mask = (x : ℕ) → has mask x ≡ (has (slice_index list c) x || has (slice_index list d) x)
MaskOfNode i o list (All r c) mask = AllSuccessorsIn i r (slice_index list c) mask
MaskOfNode i o list (Exists r c) mask = SomeSuccessorIn i r (slice_index list c) mask
MaskOfNode i o list (Typical c) mask = BestOf o (slice_index list c) mask
MaskOfNode i o list Absent mask = (x : ℕ) → has mask x ≡ false

-- the entry is true by the masks at the places of its nodes
abbrev pub TrueByMasks : Interpretation → List ℕ → Entry → Type 0
TrueByMasks i list (entry.Inclusion c d) = Includes (slice_index list d) (slice_index list c)
TrueByMasks i list (entry.Fact a c) = has (slice_index list c) (i.individual a) ≡ true
TrueByMasks i list (entry.RoleFact r a b) = has (i.successors r (i.individual a)) (i.individual b) ≡ true
TrueByMasks i list entry.Absent = Unit {0}
