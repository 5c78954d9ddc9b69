-- When a branch is true of a model, and what may be added to it. Assumes nothing.
use Rattle.std.proofs.Common.{◌≡◌, ℕ, ◌+◌, ◌<◌, ◌≤◌, Bool, true, cond, eqb, ltb, List, sym, refl, ◌∙◌, subst, arith}
use Rattle.std.specs.List.{AllByRecursion}
use Rattle.std.proofs.ByRecursion.{All-get_or, All-append, All-weaker}
use Rattle.std.proofs.lemmas.Bool.{cond-true, cond-false, cond_both, eq-eqb, ne_eqb, ltb-true, lt-ltb}
use Rattle.logic.specs.declared.tableau.Form.{Form}
use Rattle.logic.specs.declared.tableau.Form.TheVariants as form
use Rattle.logic.specs.declared.tableau.Constraint.{Constraint}
use Rattle.logic.specs.declared.tableau.Edge.{Edge}
use Rattle.logic.specs.Books.{Book, concept}
use Rattle.logic.specs.Concepts.{Concept}
use Rattle.logic.specs.Models.{Model, Sat, Bars, Admits}
use Rattle.logic.specs.Places.{At}
use Rattle.logic.specs.Branches.{Branch, start, constraint, edge, with, with_new, Says, Leads}

-- what a constraint of each form says of element x and a concept
abbrev pub True : Model → Concept → Form → ℕ → Type 0
True m c form.Holds x = Sat m c x
True m c form.Fails x = Sat m c x → ⊥
True m c form.Bars x = Bars m c x
True m c form.Admits x = Admits m c x

-- what an edge says of two elements: at role 16, that y is better than x
abbrev pub linked : Model → ℕ → ℕ → ℕ → Bool
linked m r x y = cond (eqb r 16) (m.better y x) (m.roles r x y)

-- at any other role, that it leads from x to y
pub role_linked : (m : Model) (r x y : ℕ) → r < 16 → linked m r x y ≡ m.roles r x y
role_linked m r x y h = cond-false (eqb r 16) (m.better y x) (m.roles r x y) (ne_eqb r 16 (λ q. omega arith))

-- the assignment e, with element y at label k
abbrev pub put : (ℕ → ℕ) → ℕ → ℕ → ℕ → ℕ
put e k y l = cond (eqb l k) y (e l)

put_same : (e : ℕ → ℕ) (k y : ℕ) → put e k y k ≡ y
put_same e k y = cond-true (eqb k k) y (e k) (eq-eqb k k refl)

put_other : (e : ℕ → ℕ) (k y l : ℕ) → l < k → put e k y l ≡ e l
put_other e k y l h = cond-false (eqb l k) y (e l) (ne_eqb l k (λ q. omega arith))

-- what holds of each element of a list holds of the one at a place
all_at : {A : Type 0} (P : A → Type 0) {xs : List A} {i : ℕ} {x : A} → AllByRecursion P xs → At xs i x → P x
all_at P {xs} {i} {x} h at = subst P at.is (All-get_or P xs i x at.within h)

module _ (bk : Book) (m : Model) where
  -- its label is below k, and it is true of the element that e gives the label
  abbrev pub TrueConstraint : (ℕ → ℕ) → ℕ → Constraint → Type 0
  TrueConstraint e k c = (c.label < k) × True m (concept bk c.node) c.form (e c.label)

  abbrev pub TrueEdge : (ℕ → ℕ) → ℕ → Edge → Type 0
  TrueEdge e k g = (g.from < k) × (g.to < k) × (linked m g.role (e g.from) (e g.to) ≡ true)

  -- the branch is true of the model, where e gives each label its element
  pub record Meets (e : ℕ → ℕ) (br : Branch) : Type 0 where
    pub inside : (l : ℕ) → e l < m.size
    pub named : (a : ℕ) → a < 32 → e a ≡ m.individual a
    pub started : 32 ≤ br.next
    pub constraints : AllByRecursion (TrueConstraint e br.next) br.constraints
    pub edges : AllByRecursion (TrueEdge e br.next) br.edges

  -- the starting branch is true of every model: each individual's label has its element
  pub begins : (e : ℕ → ℕ) × Meets e start
  begins = (
    λ l. cond (ltb l 32) (m.individual l) 0,
    record {
      inside = λ l. cond_both (ltb l 32) (m.individual l) 0 (λ x. x < m.size) (λ h. m.individual_within l (ltb-true l 32 h)) (λ h. m.inhabited);
      named = λ a h. cond-true (ltb a 32) (m.individual a) 0 (lt-ltb a 32 h);
      started = omega arith;
      constraints = tt;
      edges = tt;
    },
  )

  -- a constraint and an edge of the branch
  pub said : {e : ℕ → ℕ} {br : Branch} {a x n : ℕ} {f : Form} → Meets e br → Says br a x f n → (x < br.next) × True m (concept bk n) f (e x)
  said {e} {br} h s = all_at (TrueConstraint e br.next) h.constraints s

  pub led : {e : ℕ → ℕ} {br : Branch} {b x r y : ℕ} → Meets e br → Leads br b x r y → (x < br.next) × (y < br.next) × (linked m r (e x) (e y) ≡ true)
  led {e} {br} h s = all_at (TrueEdge e br.next) h.edges s

  -- what is true of the model may be added
  pub grown : {e : ℕ → ℕ} {br : Branch} → Meets e br → (cs : List Constraint) (es : List Edge) → AllByRecursion (TrueConstraint e br.next) cs → AllByRecursion (TrueEdge e br.next) es → Meets e (with br cs es)
  grown {e} {br} h cs es hc he =
      record {
        inside = h.inside;
        named = h.named;
        started = h.started;
        constraints = All-append (TrueConstraint e br.next) br.constraints cs h.constraints hc;
        edges = All-append (TrueEdge e br.next) br.edges es h.edges he;
      }

  module _ (e : ℕ → ℕ) (k y : ℕ) where
    kept_constraint : (c : Constraint) → TrueConstraint e k c → TrueConstraint (put e k y) (k + 1) c
    kept_constraint c h = (omega arith, subst (True m (concept bk c.node) c.form) (sym (put_other e k y c.label h.0)) h.1)

    kept_edge : (g : Edge) → TrueEdge e k g → TrueEdge (put e k y) (k + 1) g
    kept_edge g h =
        let p = put_other e k y g.from h.0 in
        let q = put_other e k y g.to h.1 in
        (omega arith, omega arith, (λ i. linked m g.role (p i) (q i)) ∙ h.2)

    -- a new label k for element y: what is said of it, and an edge that leads to it
    pub new_constraint : (c : ℕ) (f : Form) → True m (concept bk c) f y → TrueConstraint (put e k y) (k + 1) (constraint k f c)
    new_constraint c f t = (omega arith, subst (True m (concept bk c) f) (sym (put_same e k y)) t)

    pub new_edge : (x r : ℕ) → x < k → linked m r (e x) y ≡ true → TrueEdge (put e k y) (k + 1) (edge x r k)
    new_edge x r h t =
        let p = put_other e k y x h in
        let q = put_same e k y in
        (omega arith, omega arith, (λ i. linked m r (p i) (q i)) ∙ t)

  -- the same of a new label, which stands for element y
  pub grown_new : {e : ℕ → ℕ} {br : Branch} → Meets e br → (y : ℕ) → y < m.size → (cs : List Constraint) (es : List Edge) → AllByRecursion (TrueConstraint (put e br.next y) (br.next + 1)) cs → AllByRecursion (TrueEdge (put e br.next y) (br.next + 1)) es → Meets (put e br.next y) (with_new br cs es)
  grown_new {e} {br} h y y-in cs es hc he =
      let k = br.next in
      let c = TrueConstraint (put e k y) (k + 1) in
      let g = TrueEdge (put e k y) (k + 1) in
      record {
        inside = λ l. cond_both (eqb l k) y (e l) (λ z. z < m.size) (λ _. y-in) (λ _. h.inside l);
        named = λ a lt. put_other e k y a (omega (arith, h.started)) ∙ h.named a lt;
        started = omega (arith, h.started);
        constraints = All-append c br.constraints cs (All-weaker (TrueConstraint e k) c (kept_constraint e k y) br.constraints h.constraints) hc;
        edges = All-append g br.edges es (All-weaker (TrueEdge e k) g (kept_edge e k y) br.edges h.edges) he;
      }
