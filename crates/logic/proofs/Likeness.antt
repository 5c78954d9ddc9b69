-- Models that are alike satisfy the same books. Assumes nothing.
use Rattle.std.proofs.Common.{◌≡◌, ℕ, zero, suc, ◌<◌, true, List, [], ◌∷◌, ◌++◌, length, get_or, sym, ◌∙◌, subst, inl, inr, arith}
use Rattle.std.proofs.lemmas.List.{get_or_append_left, get_or_past, get_or_push, length_push}
use Rattle.std.proofs.lemmas.Bool.{and_parts, ltb-true, cases_order}
use Rattle.logic.specs.declared.records.Node.{Node}
use Rattle.logic.specs.declared.records.Node.TheVariants as node
use Rattle.logic.specs.declared.records.Entry.{Entry}
use Rattle.logic.specs.declared.records.Entry.TheVariants as entry
use Rattle.logic.specs.Concepts.{Concept, top, bottom, atom, not, and, or, all, some, typical, of, read, concepts_after}
use Rattle.logic.specs.Books.{Book, concept}
use Rattle.logic.specs.Lawful.{WellFormed, node_within_limits, entry_within_limits}
use Rattle.logic.specs.Models.{Model, Sat}
use Rattle.logic.specs.Satisfaction.{HoldsIn}
use Rattle.logic.specs.Likeness.{Alike, AlikeSatisfy}
use Rattle.logic.proofs.Lawfulness.{node_within, entry_within}

-- names below 64 and roles below 16 only
abbrev Known : Concept → Type 0
Known top = Unit {0}
Known bottom = Unit {0}
Known (atom a) = a < 64
Known (not c) = Known c
Known (and c d) = Known c × Known d
Known (or c d) = Known c × Known d
Known (all r c) = (r < 16) × Known c
Known (some r c) = (r < 16) × Known c
Known (typical c) = Known c

known_read : (cs : List Concept) → ((i : ℕ) → Known (of cs i)) → (n : Node) → node_within_limits n ≡ true → Known (read cs n)
known_read cs k node.Top h = tt
known_read cs k node.Bottom h = tt
known_read cs k (node.Name a) h = ltb-true a 64 h
known_read cs k (node.Not c) h = k c
known_read cs k (node.And c d) h = (k c, k d)
known_read cs k (node.Or c d) h = (k c, k d)
known_read cs k (node.All r c) h = (ltb-true r 16 h, k c)
known_read cs k (node.Exists r c) h = (ltb-true r 16 h, k c)
known_read cs k (node.Typical c) h = k c
known_read cs k node.Absent h = tt

known_push : (cs : List Concept) (c : Concept) → ((i : ℕ) → Known (of cs i)) → Known c → (i : ℕ) → Known (of (cs ++ c ∷ []) i)
known_push cs c k h i = elim (cases_order i (length cs)) [
  | inl e ↦ subst Known (sym (get_or_push cs c bottom i (sym e))) h
  | inr (inl l) ↦ subst Known (sym (get_or_append_left cs (c ∷ []) bottom i l)) (k i)
  | inr (inr l) ↦ subst Known (sym (get_or_past (cs ++ c ∷ []) i bottom (omega (arith, length_push cs c)))) tt
]

known_read_on : (cs : List Concept) (ns : List Node) → ((i : ℕ) → Known (of cs i)) → ((i : ℕ) → node_within_limits (get_or ns i node.Absent) ≡ true) → (i : ℕ) → Known (of (concepts_after cs ns) i)
known_read_on cs [] k h i = k i
known_read_on cs (n ∷ ns) k h i =
    known_read_on (cs ++ read cs n ∷ []) ns (known_push cs (read cs n) k (known_read cs k n (h zero))) (λ j. h (suc j)) i

known : (bk : Book) → WellFormed bk → (i : ℕ) → Known (concept bk i)
known bk w i = known_read_on [] bk.nodes (λ j. tt) (λ j. (node_within bk w j).0) i

pub back : (m k : Model) → Alike m k → Alike k m
back m k e = record {
  size = sym e.size;
  atoms = λ a x h l. sym (e.atoms a x h (subst (λ n. x < n) (sym e.size) l));
  roles = λ r x y h l j. sym (e.roles r x y h (subst (λ n. x < n) (sym e.size) l) (subst (λ n. y < n) (sym e.size) j));
  individual = λ a h. sym (e.individual a h);
  better = λ y x l j. sym (e.better y x (subst (λ n. y < n) (sym e.size) l) (subst (λ n. x < n) (sym e.size) j));
}

same : (c : Concept) → Known c → (m k : Model) → Alike m k → (x : ℕ) → x < m.size → Sat m c x → Sat k c x
same top h m k e x l s = tt
same bottom h m k e x l s = s
same (atom a) h m k e x l s = sym (e.atoms a x h l) ∙ s
same (not c) h m k e x l s = λ u. s (same c h k m (back m k e) x (subst (λ n. x < n) e.size l) u)
same (and c d) h m k e x l s = (same c h.0 m k e x l s.0, same d h.1 m k e x l s.1)
same (or c d) h m k e x l (inl s) = inl (same c h.0 m k e x l s)
same (or c d) h m k e x l (inr s) = inr (same d h.1 m k e x l s)
same (all r c) h m k e x l s =
    λ y j t.
    let i = subst (λ n. y < n) (sym e.size) j in
    same c h.1 m k e y i (s y i (e.roles r x y h.0 l i ∙ t))
same (some r c) h m k e x l s =
    (s.0, subst (λ n. s.0 < n) e.size s.1, sym (e.roles r x s.0 h.0 l s.1) ∙ s.2, same c h.1 m k e s.0 s.1 s.3)
same (typical c) h m k e x l s = (
  same c h m k e x l s.0,
  λ y j t u.
      let i = subst (λ n. y < n) (sym e.size) j in
      s.1 y i (e.better y x i l ∙ t) (same c h k m (back m k e) y j u),
)

holds : (bk : Book) → WellFormed bk → (m k : Model) → Alike m k → (e : Entry) → entry_within_limits e ≡ true → HoldsIn m bk e → HoldsIn k bk e
holds bk w m k a (entry.Inclusion c d) h s =
    λ x l u.
    let i = subst (λ n. x < n) (sym a.size) l in
    same _ (known bk w d) m k a x i (s x i (same _ (known bk w c) k m (back m k a) x l u))
holds bk w m k a (entry.Fact i c) h s =
    let l = ltb-true i 32 h in
    subst (Sat k (concept bk c)) (a.individual i l) (same _ (known bk w c) m k a (m.individual i) (m.individual_within i l) s)
holds bk w m k a (entry.RoleFact r i j) h s =
    let p = and_parts _ _ h in
    let q = and_parts _ _ p.1 in
    let u = ltb-true i 32 q.0 in
    let v = ltb-true j 32 q.1 in
    let t = sym (a.roles r (m.individual i) (m.individual j) (ltb-true r 16 p.0) (m.individual_within i u) (m.individual_within j v)) ∙ s in
    subst (λ y. k.roles r (k.individual i) y ≡ true) (a.individual j v) (subst (λ x. k.roles r x (m.individual j) ≡ true) (a.individual i u) t)
holds bk w m k a entry.Absent h s = tt

pub alike_satisfy : AlikeSatisfy
alike_satisfy m k a bk w s i e live =
    holds bk w m k a e (subst (λ l. entry_within_limits l.entry ≡ true) live (entry_within bk w i)) (s i e live)
