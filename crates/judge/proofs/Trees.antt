-- Steps that are taken to the end are the writing of a closed tableau, and the other way round.
-- Assumes nothing.
use Rattle.std.proofs.Common.{◌≡◌, ℕ, suc, ◌≤◌, List, [], ◌∷◌, ◌++◌, length, sym, ap, ◌∙◌, subst, arith}
use Rattle.std.proofs.lemmas.List.{append_assoc, append-nil, length_push}
use Rattle.logic.specs.declared.tableau.Constraint.{Constraint}
use Rattle.logic.specs.declared.tableau.Step.{Step}
use Rattle.logic.specs.Books.{Book}
use Rattle.logic.specs.Branches.{Branch, start, with}
use Rattle.logic.specs.Rules.{Closes, Splits, inclusion, or_holds, and_fails, typical_fails}
use Rattle.logic.specs.Tableaux.{Closed, close, extend, split, writing}
use Rattle.logic.specs.Limits.{AfterEachStep, Lengths, LongEnough, FitsLists, FewLabels}
use Rattle.logic.proofs.Fitting.{each_weaker}
use Rattle.judge.specs.Progress.{Room, Underway, begun, extended, divided, resumed, Finished, ended}

module _ (bk : Book) (ls : Lengths) where
  -- the two branches of a split are equally large
  alike : (br : Branch) (c d : Constraint) (k : ℕ) → Room ls (suc k) (with br (c ∷ []) []) → Room ls k (with br (d ∷ []) [])
  alike br c d k r =
      let a : length (br.constraints ++ c ∷ []) ≤ ls.constraints = r.lists.constraints in
      let b : suc k ≤ ls.splits = r.lists.splits in
      record { lists = record { constraints = omega (arith, length_push br.constraints c, length_push br.constraints d); edges = r.lists.edges; splits = omega arith }; labels = r.labels }

  second_room : {br l r : Branch} {s : Step} (k : ℕ) → Splits bk br s l r → Room ls (suc k) l → Room ls k r
  second_room {br = br} k (inclusion live within) h = alike br _ _ k h
  second_room {br = br} k (or_holds says is) h = alike br _ _ k h
  second_room {br = br} k (and_fails says is) h = alike br _ _ k h
  second_room {br = br} k (typical_fails says is) h = alike br _ _ k h

  abbrev Roomy : ℕ → {br : Branch} → Closed bk br → Type 0
  Roomy k t = AfterEachStep (Room ls) k t

  -- a closed tableau over each pending branch
  abbrev Rest : List Branch → Type 0
  Rest [] = Unit {0}
  Rest (p ∷ ps) = ((t : Closed bk p) × Roomy (length ps) t) × Rest ps

  abbrev rest_steps : (ps : List Branch) → Rest ps → List Step
  rest_steps [] r = []
  rest_steps (p ∷ ps) r = writing r.0.0 ++ rest_steps ps r.1

  -- what is left of a tableau under way makes it whole
  whole : {ss : List Step} {br : Branch} {ps : List Branch} → Underway bk ls ss br ps → (t : Closed bk br) → Roomy (length ps) t → (r : Rest ps) → (w : Closed bk start) × (writing w ≡ ss ++ (writing t ++ rest_steps ps r)) × Roomy 0 w
  whole begun t f r = (t, sym (append-nil (writing t)), f)
  whole (extended {ss = ss} {ps = ps} {s = s} u x room) t f r =
      let w = whole u (extend x t) (room, f) r in
      (w.0, w.1 ∙ sym (append_assoc ss (s ∷ []) (writing t ++ rest_steps ps r)), w.2)
  whole (divided {ss = ss} {right = right} {ps = ps} {s = s} u x room) t f r =
      let v = r.0.0 in
      let w = whole u (split x t v) (room, f, second_room (length ps) x room, r.0.1) r.1 in
      (w.0, w.1 ∙ ap (λ l. ss ++ (s ∷ l)) (append_assoc (writing t) (writing v) (rest_steps ps r.1)) ∙ sym (append_assoc ss (s ∷ []) (writing t ++ (writing v ++ rest_steps ps r.1))), w.2)
  whole (resumed {ss = ss} {b = b} {ps = ps} {s = s} u x) t f r =
      let w = whole u (close x) tt ((t, f), r) in
      (w.0, w.1 ∙ sym (append_assoc ss (s ∷ []) (writing t ++ rest_steps ps r)), w.2)

  pub finished_closed : {ss : List Step} → Finished bk ls ss → (t : Closed bk start) × (writing t ≡ ss) × Roomy 0 t
  finished_closed (ended {ss = ss} {s = s} u x) = whole u (close x) tt tt

  -- all is closed, or the latest pending branch is next
  abbrev Turned : List Step → List Branch → Type 0
  Turned ss [] = Finished bk ls ss
  Turned ss (p ∷ ps) = Underway bk ls ss p ps

  closes_off : (ss : List Step) (s : Step) (br : Branch) (ps : List Branch) → Underway bk ls ss br ps → Closes bk br s → Turned (ss ++ s ∷ []) ps
  closes_off ss s br [] u x = ended u x
  closes_off ss s br (p ∷ ps) u x = resumed u x

  -- the writing of a closed tableau is worked to its end
  follow : {br : Branch} (t : Closed bk br) (ss : List Step) (ps : List Branch) → Underway bk ls ss br ps → Roomy (length ps) t → Turned (ss ++ writing t) ps
  follow {br = br} (close {s = s} x) ss ps u f = closes_off ss s br ps u x
  follow (extend {s = s} x t) ss ps u f =
      subst (λ l. Turned l ps) (append_assoc ss (s ∷ []) (writing t)) (follow t (ss ++ s ∷ []) ps (extended u x f.0) f.1)
  follow (split {right = right} {s = s} x t v) ss ps u f =
      let first = follow t (ss ++ s ∷ []) (right ∷ ps) (divided u x f.0) f.1 in
      subst (λ l. Turned l ps) (append_assoc (ss ++ s ∷ []) (writing t) (writing v) ∙ append_assoc ss (s ∷ []) (writing t ++ writing v))
      (follow v ((ss ++ s ∷ []) ++ writing t) ps first f.3)

  -- what holds of each branch, in two parts
  both : {br : Branch} (k : ℕ) (t : Closed bk br) → AfterEachStep (LongEnough ls) k t → AfterEachStep FewLabels k t → Roomy k t
  both k (close x) f g = tt
  both k (extend x t) f g = (record { lists = f.0; labels = g.0 }, both k t f.1 g.1)
  both k (split x t v) f g =
      (record { lists = f.0; labels = g.0 }, both (suc k) t f.1 g.1, record { lists = f.2; labels = g.2 }, both k v f.3 g.3)

  pub closed_finished : (t : Closed bk start) → FitsLists ls t → AfterEachStep FewLabels 0 t → Finished bk ls (writing t)
  closed_finished t f g = follow t [] [] begun (both 0 t f g)

  pub roomy_fits : (t : Closed bk start) → Roomy 0 t → FitsLists ls t × AfterEachStep FewLabels 0 t
  roomy_fits t f = (each_weaker (Room ls) (LongEnough ls) (λ k b r. r.lists) 0 t f, each_weaker (Room ls) FewLabels (λ k b r. r.labels) 0 t f)
