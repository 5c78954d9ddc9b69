-- From masks to sets: the mask of a node is the set of its concept, and an entry that is true by the masks is true,
-- where the list has the sets. Assumes nothing.
use Rattle.std.proofs.Common.{◌≡◌, ℕ, false, List, inl, inr, arith}
use Rattle.std.proofs.lemmas.Bool.{both_ways}
use Rattle.std.proofs.lemmas.Bool.Decides.{Decides-at, Decides-like, Decides-not, Decides-and, Decides-or, Decides-ltb}
use Rattle.logic.specs.declared.records.Node.{Node}
use Rattle.logic.specs.declared.records.Node.TheVariants.{Top, Bottom, Name, Not, And, Or, All, Exists, Typical, Absent}
use Rattle.logic.specs.declared.records.Entry.{Entry}
use Rattle.logic.specs.declared.records.Entry.TheVariants as entry
use Rattle.logic.specs.Concepts.{Concept, concepts}
use Rattle.logic.specs.Concepts as con
use Rattle.logic.specs.Books.{Book}
use Rattle.logic.specs.Models.{Model}
use Rattle.logic.specs.Satisfaction.{HoldsIn}
use Rattle.orders.specs.Masks.{has, Preference}
use Rattle.orders.proofs.MaskBits.{has-zero}
use Rattle.models.specs.Interpretations.{Interpretation}
use Rattle.models.specs.Fields.{name, role, individual}
use Rattle.models.specs.Meanings.{Compatible, model_of}
use Rattle.models.specs.Extensions.{Extension, HaveSets, SetOfNode}
use Rattle.models.specs.NodeMasks.{MaskOfNode, TrueByMasks}

-- a mask without elements is the set of no element
no_element : (m : Model) (mask : ℕ) → ((x : ℕ) → has mask x ≡ false) → Extension m con.bottom mask
no_element m mask h x = (λ t. absurd (both_ways _ (h x) t), λ p. absurd p.1)

pub empty_set : (m : Model) → Extension m con.bottom 0
empty_set m = no_element m 0 has-zero

pub set_of_mask : (i : Interpretation) (o : Preference) (list : List ℕ) (n : Node) (mask : ℕ) → MaskOfNode i o list n mask → SetOfNode i o list n mask
set_of_mask i o list Top mask h f cs s x = Decides-like (has mask x) (λ l. (l, tt)) (λ p. p.0) (Decides-at _ _ (h x) (Decides-ltb x i.size))
set_of_mask i o list Bottom mask h f cs s x = no_element (model_of i o f) mask h x
set_of_mask i o list (Name a) mask h f cs s x = Decides-at _ _ (h x) (λ t. (f.valid (name a) x t, t), λ p. p.1)
set_of_mask i o list (Not c) mask h f cs s x =
    Decides-like (has mask x) (λ p. (p.0, λ t. p.1 (p.0, t))) (λ p. (p.0, λ q. p.1 q.1))
    (Decides-at _ _ (h x) (Decides-and _ _ (Decides-ltb x i.size) (Decides-not _ (s c x))))
set_of_mask i o list (And c d) mask h f cs s x =
    Decides-like (has mask x) (λ p. (p.0.0, (p.0.1, p.1.1))) (λ p. ((p.0, p.1.0), (p.0, p.1.1)))
    (Decides-at _ _ (h x) (Decides-and _ _ (s c x) (s d x)))
set_of_mask i o list (Or c d) mask h f cs s x =
    Decides-like (has mask x)
    (λ p. elim p [ inl u ↦ (u.0, inl u.1) | inr u ↦ (u.0, inr u.1) ])
    (λ p. elim p.1 [ inl u ↦ inl (p.0, u) | inr u ↦ inr (p.0, u) ])
    (Decides-at _ _ (h x) (Decides-or _ _ (s c x) (s d x)))
set_of_mask i o list (All r c) mask h f cs s x =
    let there = (f.valid (role r x)).0 in
    Decides-like (has mask x)
    (λ p. (p.0, λ y l t. ((s c y).0 (p.1 y t)).1))
    (λ p. (p.0, λ y t. (s c y).1 (there y t, p.1 y (there y t) t)))
    (h x)
set_of_mask i o list (Exists r c) mask h f cs s x =
    Decides-like (has mask x)
    (λ p. let k = (s c p.1.0).0 p.1.2 in (p.0, (p.1.0, k.0, p.1.1, k.1)))
    (λ p. (p.0, (p.1.0, p.1.2, (s c p.1.0).1 (p.1.1, p.1.3))))
    (h x)
set_of_mask i o list (Typical c) mask h f cs s x =
    Decides-like (has mask x)
    (λ b. (omega (arith, b.within, f.sized), (((s c x).0 b.member).1, λ y l t k. b.none_better y t ((s c y).1 (l, k)))))
    (λ p. record {
      within = omega (arith, p.0, f.sized);
      member = (s c x).1 (p.0, p.1.0);
      none_better = λ y t k. let u = (s c y).0 k in p.1.1 y u.0 t u.1;
    })
    (h x)
set_of_mask i o list Absent mask h f cs s x = no_element (model_of i o f) mask h x

-- an entry is true by the masks exactly when it is true in the model
pub truth_of_masks : (i : Interpretation) (o : Preference) (f : Compatible i o) (bk : Book) (list : List ℕ) → HaveSets (model_of i o f) (concepts bk.nodes) list → (e : Entry) → (TrueByMasks i list e → HoldsIn (model_of i o f) bk e) × (HoldsIn (model_of i o f) bk e → TrueByMasks i list e)
truth_of_masks i o f bk list s (entry.Inclusion c d) = (
  λ all x l t. ((s d x).0 (all x ((s c x).1 (l, t)))).1,
  λ all x t. let u = (s c x).0 t in (s d x).1 (u.0, all x u.0 u.1),
)
truth_of_masks i o f bk list s (entry.Fact a c) =
    let x = i.individual a in
    (λ t. ((s c x).0 t).1, λ u. (s c x).1 (f.valid (individual a), u))
truth_of_masks i o f bk list s (entry.RoleFact r a b) = (λ t. t, λ t. t)
truth_of_masks i o f bk list s entry.Absent = (λ t. t, λ t. t)
