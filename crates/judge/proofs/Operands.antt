-- The mask of a node depends on no places of a list but those of its operands. Assumes nothing.
use Rattle.std.proofs.Common.{◌≡◌, ℕ, ◌<◌, true, ◌&&◌, ◌||◌, ltb, List, get_or, ◌∙◌, subst}
use Rattle.std.proofs.lemmas.Bool.{and_parts, ltb-true}
use Rattle.logic.specs.declared.records.Node.{Node}
use Rattle.logic.specs.declared.records.Node.TheVariants.{Top, Bottom, Name, Not, And, Or, All, Exists, Typical, Absent}
use Rattle.logic.specs.Lawful.{node_operands_below}
use Rattle.orders.specs.Masks.{has, Preference}
use Rattle.models.specs.Interpretations.{Interpretation}
use Rattle.models.specs.Extensions.{Complement, SomeSuccessorIn, BestOf}
use Rattle.models.specs.NodeMasks.{AllSuccessorsIn, MaskOfNode}

module _ (i : Interpretation) (o : Preference) (k : ℕ) (before after : List ℕ) (same : (c : ℕ) → c < k → get_or before c 0 ≡ get_or after c 0) where
  at : (c : ℕ) → ltb c k ≡ true → get_or before c 0 ≡ get_or after c 0
  at c t = same c (ltb-true c k t)

  pub same_mask : (n : Node) → node_operands_below k n ≡ true → (m : ℕ) → MaskOfNode i o before n m → MaskOfNode i o after n m
  same_mask Top t m h = h
  same_mask Bottom t m h = h
  same_mask (Name a) t m h = h
  same_mask (Not c) t m h = subst (λ s. Complement i s m) (at c t) h
  same_mask (And c d) t m h = let p = and_parts (ltb c k) (ltb d k) t in λ x. h x ∙ (λ j. has (at c p.0 j) x && has (at d p.1 j) x)
  same_mask (Or c d) t m h = let p = and_parts (ltb c k) (ltb d k) t in λ x. h x ∙ (λ j. has (at c p.0 j) x || has (at d p.1 j) x)
  same_mask (All r c) t m h = subst (λ s. AllSuccessorsIn i r s m) (at c t) h
  same_mask (Exists r c) t m h = subst (λ s. SomeSuccessorIn i r s m) (at c t) h
  same_mask (Typical c) t m h = subst (λ s. BestOf o s m) (at c t) h
  same_mask Absent t m h = h
