-- A list that is filled bottom up with the masks of nodes. Assumes nothing.
use Rattle.std.proofs.Common.{◌≡◌, ℕ, true, ◌+◌, ◌<◌, ◌≤◌, ◌≢◌, List, [], ◌∷◌, ◌++◌, length, get_or, take, set, replicate, sym, ap, ◌∙◌, subst, inl, inr, arith, below_more}
use Rattle.std.proofs.lemmas.List.{get_or-set_same, get_or-set_other, get_or_past, get_or_push, get_or_append_left, length_push, length-take-le, take_more, take_all}
use Rattle.std.proofs.lemmas.Bool.{cases_eq, cases_lt}
use Rattle.logic.specs.declared.records.Node.TheVariants.{Absent}
use Rattle.logic.specs.Concepts.{Concept, bottom, of, read, concepts}
use Rattle.logic.specs.Books.{Book, node_at}
use Rattle.logic.specs.Lawful.{node_operands_below, WellFormed}
use Rattle.logic.proofs.Lawfulness.{node_parts}
use Rattle.logic.proofs.Reading.{concepts-push, length-concepts}
use Rattle.logic.specs.Models.{Model}
use Rattle.orders.specs.Masks.{Preference}
use Rattle.models.specs.Interpretations.{Interpretation}
use Rattle.models.specs.Meanings.{Compatible, model_of}
use Rattle.models.specs.Extensions.{Extension, HaveSets, SetOfNode}
use Rattle.models.proofs.ConceptSets.{empty_set}
use Rattle.models.specs.NodeMasks.{MaskOfNode}
use Rattle.judge.specs.NodeSets.{Zeros, HasNodeMasks, HasNodeSets}
use Rattle.judge.proofs.Operands.{same_mask}
use Rattle.judge.proofs.Replicated.{replicated}

-- a list that is blank has only zeros
pub blank_zeros : (list : List ℕ) (n : ℕ) → list ≡ replicate n 0 → Zeros list
blank_zeros list n e i = ap (λ (ss : List ℕ). get_or ss i 0) e ∙ replicated 0 n i

-- one concept more leaves what stands at the other places
of_push_other : (cs : List Concept) (c : Concept) (j : ℕ) → j ≢ length cs → of (cs ++ c ∷ []) j ≡ of cs j
of_push_other cs c j ne = elim (cases_lt j (length cs)) [
  | inl l ↦ get_or_append_left cs (c ∷ []) bottom j l
  | inr l ↦ get_or_past (cs ++ c ∷ []) j bottom (omega (arith, length_push cs c, ne)) ∙ sym (get_or_past cs j bottom l)
]

module _ (bk : Book) (lawful : WellFormed bk) (i : Interpretation) (o : Preference) where
  -- the list has the masks of the first k nodes, which are their sets where there is a model, and then zeros
  pub record FilledTo (k : ℕ) (list : List ℕ) : Type 0 where
    pub masks : (j : ℕ) → j < k → MaskOfNode i o list (node_at bk j) (get_or list j 0)
    pub sets : (f : Compatible i o) → HaveSets (model_of i o f) (concepts (take k bk.nodes)) list
    pub rest : (j : ℕ) → k ≤ j → get_or list j 0 ≡ 0

  pub filled_none : (list : List ℕ) → Zeros list → FilledTo 0 list
  filled_none list z = record {
    masks = λ j l. absurd (omega arith);
    sets = λ f j. subst (Extension (model_of i o f) bottom) (sym (z j)) (empty_set (model_of i o f));
    rest = λ j _. z j;
  }

  module _ (k v : ℕ) (list : List ℕ) (inside : k < length bk.nodes) (room : k < length list) (h : FilledTo k list) where
    here : get_or (set list k v) k 0 ≡ v
    here = get_or-set_same list k v 0 room

    elsewhere : (j : ℕ) → j ≢ k → get_or list j 0 ≡ get_or (set list k v) j 0
    elsewhere j ne = sym (get_or-set_other list k j v 0 ne)

    -- the operands of node j stand before it
    below : (j : ℕ) → j ≤ k → node_operands_below j (node_at bk j) ≡ true
    below j l = (node_parts j (node_at bk j) (lawful.nodes j (omega arith))).2

    masks_more : MaskOfNode i o list (node_at bk k) v → (j : ℕ) → j < k + 1 → MaskOfNode i o (set list k v) (node_at bk j) (get_or (set list k v) j 0)
    masks_more next = below_more _ _
        (λ j l. let ne : j ≢ k = omega arith in
        subst (MaskOfNode i o (set list k v) (node_at bk j)) (elsewhere j ne)
        (same_mask i o j list (set list k v) (λ c b. let other : c ≢ k = omega arith in elsewhere c other) (node_at bk j) (below j (omega arith)) _ (h.masks j l)))
        (subst (MaskOfNode i o (set list k v) (node_at bk k)) (sym here)
        (same_mask i o k list (set list k v) (λ c b. let other : c ≢ k = omega arith in elsewhere c other) (node_at bk k) (below k (omega arith)) v next))

    sets_more : SetOfNode i o list (node_at bk k) v → (f : Compatible i o) → HaveSets (model_of i o f) (concepts (take (k + 1) bk.nodes)) (set list k v)
    sets_more next f j =
        let M = model_of i o f in
        let cs = concepts (take k bk.nodes) in
        let n = node_at bk k in
        let count : length cs ≡ k = length-concepts (take k bk.nodes) ∙ length-take-le k bk.nodes (omega arith) in
        let more : concepts (take (k + 1) bk.nodes) ≡ cs ++ read cs n ∷ [] = ap concepts (take_more bk.nodes k Absent inside) ∙ concepts-push (take k bk.nodes) n in
        subst (λ ds. Extension M (of ds j) (get_or (set list k v) j 0)) (sym more) (elim (cases_eq j k) [
          | inl e ↦
              (let new : of (cs ++ read cs n ∷ []) j ≡ read cs n = get_or_push cs (read cs n) bottom j (count ∙ sym e) in
              let there : get_or (set list k v) j 0 ≡ v = ap (λ m. get_or (set list k v) m 0) e ∙ here in
              subst (λ c. Extension M c (get_or (set list k v) j 0)) (sym new) (subst (Extension M (read cs n)) (sym there) (next f cs (h.sets f))))
          | inr ne ↦
              (let old : of (cs ++ read cs n ∷ []) j ≡ of cs j = of_push_other cs (read cs n) j (λ e. ne (e ∙ count)) in
              subst (λ c. Extension M c (get_or (set list k v) j 0)) (sym old) (subst (Extension M (of cs j)) (elsewhere j ne) (h.sets f j)))
        ])

    pub filled_more : MaskOfNode i o list (node_at bk k) v → SetOfNode i o list (node_at bk k) v → FilledTo (k + 1) (set list k v)
    filled_more mask next = record {
      masks = masks_more mask;
      sets = sets_more next;
      rest = λ j l. let ne : j ≢ k = omega arith in sym (elsewhere j ne) ∙ h.rest j (omega arith);
    }

  -- all nodes: the list has every mask, and every set
  module _ (k : ℕ) (list : List ℕ) (l : length bk.nodes ≤ k) (g : k ≤ length bk.nodes) (h : FilledTo k list) where
    pub all_masks : HasNodeMasks bk i o list
    all_masks = record { masks = λ j b. h.masks j (omega arith); rest = λ j past. h.rest j (omega arith) }

    pub all_sets : (f : Compatible i o) → HasNodeSets (model_of i o f) bk list
    all_sets f =
        let all = subst (λ ns. HaveSets (model_of i o f) (concepts ns) list) (take_all k bk.nodes l) (h.sets f) in
        record { sets = λ j _. all j; rest = λ j past. h.rest j (omega arith) }

-- so it has one at every place, the empty set past the nodes
pub sets_everywhere : (m : Model) (bk : Book) (list : List ℕ) → HasNodeSets m bk list → HaveSets m (concepts bk.nodes) list
sets_everywhere m bk list s j = elim (cases_lt j (length bk.nodes)) [
  | inl l ↦ s.sets j l
  | inr l ↦
      (let none : of (concepts bk.nodes) j ≡ bottom = get_or_past (concepts bk.nodes) j bottom (omega (arith, length-concepts bk.nodes)) in
      subst (λ c. Extension m c (get_or list j 0)) (sym none) (subst (Extension m bottom) (sym (s.rest j l)) (empty_set m)))
]
