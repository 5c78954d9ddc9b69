-- An extending rule keeps a branch true of a model, a splitting rule keeps one of its two sides true,
-- and no branch that closes is true of a model. So a closed tableau leaves its book without a model.
-- Assumes nothing.
use Rattle.std.proofs.Common.{◌≡◌, ℕ, ◌<◌, true, ◌&&◌, ltb, ◌⊎◌, List, [], ◌∷◌, ◌++◌, sym, ap, ◌∙◌, subst, inl, inr, ⊎_elim, arith}
use mathlib.Core.Logic.Dec
use Rattle.std.proofs.lemmas.Bool.{and_parts, ltb-true}
use Rattle.logic.specs.declared.records.Node.{Node}
use Rattle.logic.specs.declared.records.Entry.{Entry}
use Rattle.logic.specs.declared.tableau.Form.{Form}
use Rattle.logic.specs.declared.tableau.Form.TheVariants as form
use Rattle.logic.specs.declared.tableau.Step.{Step}
use Rattle.logic.specs.Concepts.{Concept, not, some, all, read, concepts}
use Rattle.logic.specs.Books.{Book, concept, stored_at}
use Rattle.logic.specs.Lawful.{node_within_limits, entry_within_limits, WellFormed}
use Rattle.logic.specs.Models.{Model, Sat}
use Rattle.logic.specs.Satisfaction.{Live, HoldsIn}
use Rattle.logic.specs.Branches.{Branch, constraint, edge, with, with_new, Says, Leads}
use Rattle.logic.specs.Rules.{Is, Extends, fact, role_fact, not_holds, not_fails, and_holds, or_fails, some_holds, all_fails, all_holds, some_fails, typical_holds, admits, bars, Splits, inclusion, or_holds, and_fails, typical_fails, Closes, holds_and_fails, bars_and_admits, bottom_holds, top_fails}
use Rattle.logic.specs.Tableaux.{Closed, close, extend, split, writing}
use Rattle.logic.specs.Soundness.{NamedTrue, Soundness, NoModel}
use Rattle.logic.proofs.Reading.{concept_at}
use Rattle.logic.proofs.Lawfulness.{node_within, entry_within}
use Rattle.logic.proofs.Membership.{membership_decided, admitted}
use Rattle.logic.proofs.Minimal.{minimal}
use Rattle.logic.proofs.Naming.{names_own, names_left, names_right}
use Rattle.logic.proofs.NamedLive.{named_live}
use Rattle.logic.proofs.Meeting.{True, role_linked, put, Meets, begins, said, led, grown, grown_new, new_constraint, new_edge}

-- not all elements that role r leads to from x are in c, so one of them is not
counterexample : (m : Model) (c : Concept) (r x : ℕ) → (Sat m (all r c) x → ⊥) → Sat m (some r (not c)) x
counterexample m c r x n = go (membership_decided m (some r (not c)) x)
  where
    go : Dec (Sat m (some r (not c)) x) → Sat m (some r (not c)) x
    go (yes w) = w
    go (no none) = absurd (n (λ y h t. (Dec.not-not (membership_decided m c y)).0 (λ q. none (y, h, t, q))))

module _ (bk : Book) (well : WellFormed bk) (m : Model) where
  -- a live entry is the entry at its place, and its numbers are within their limits
  entered : (a : ℕ) {e : Entry} → Live bk a e → HoldsIn m bk (stored_at bk a).entry → HoldsIn m bk e
  entered a live h = subst (λ l. HoldsIn m bk l.entry) live h

  limits : (a : ℕ) {e : Entry} → Live bk a e → entry_within_limits e ≡ true
  limits a live = sym (ap (λ l. entry_within_limits l.entry) live) ∙ entry_within bk well a

  -- so are those of a node
  node_limits : (n : ℕ) {node : Node} → Is bk n node → node_within_limits node ≡ true
  node_limits n is = sym (ap node_within_limits is) ∙ (node_within bk well n).0

  -- a constraint of the branch, with its node read
  opened : {e : ℕ → ℕ} {br : Branch} {a x n : ℕ} {f : Form} {node : Node} → Meets bk m e br → Says br a x f n → Is bk n node → True m (read (concepts bk.nodes) node) f (e x)
  opened {e} {br} {a} {x} {n} {f} {node} h s is =
      subst (λ c. True m c f (e x)) (concept_at bk.nodes n (node_within bk well n).1 ∙ ap (read (concepts bk.nodes)) is) (said bk m h s).1

  -- an edge of a role leads between elements by that role
  by_role : {e : ℕ → ℕ} {br : Branch} {b x r y : ℕ} → Meets bk m e br → Leads br b x r y → ltb r 16 ≡ true → m.roles r (e x) (e y) ≡ true
  by_role {e} {br} {b} {x} {r} {y} h s lt = sym (role_linked m r (e x) (e y) (ltb-true r 16 lt)) ∙ (led bk m h s).2

  -- constraints at a label x of the branch that are true of its element
  one : {e : ℕ → ℕ} {br : Branch} → Meets bk m e br → (x c : ℕ) (f : Form) → x < br.next → True m (concept bk c) f (e x) → Meets bk m e (with br (constraint x f c ∷ []) [])
  one h x c f within t = grown bk m h _ _ ((within, t), tt) tt

  two : {e : ℕ → ℕ} {br : Branch} → Meets bk m e br → (x c d : ℕ) (f g : Form) → x < br.next → True m (concept bk c) f (e x) → True m (concept bk d) g (e x) → Meets bk m e (with br (constraint x f c ∷ constraint x g d ∷ []) [])
  two h x c d f g within t u = grown bk m h _ _ ((within, t), ((within, u), tt)) tt

  -- a new label for an element to which role r leads from the element of x
  reached : {e : ℕ → ℕ} {br : Branch} → Meets bk m e br → (x r c : ℕ) (f : Form) → x < br.next → ltb r 16 ≡ true → (y : ℕ) → y < m.size → m.roles r (e x) y ≡ true → True m (concept bk c) f y → (e' : ℕ → ℕ) × Meets bk m e' (with_new br (constraint br.next f c ∷ []) (edge x r br.next ∷ []))
  reached {e} {br} h x r c f within lt y y-in t p =
      let k = br.next in
      (put e k y, grown_new bk m h y y-in _ _ (new_constraint bk m e k y c f p, tt) (new_edge bk m e k y x r within (role_linked m r (e x) y (ltb-true r 16 lt) ∙ t), tt))

  -- an extending rule keeps the branch true, perhaps with an element for a new label
  keeps : {br br' : Branch} {s : Step} → NamedTrue m bk (s ∷ []) → Extends bk br s br' → (e : ℕ → ℕ) → Meets bk m e br → (e' : ℕ → ℕ) × Meets bk m e' br'
  keeps {br} named (fact {a = a} {x = x} {c = c} live) e h =
      let lt : x < 32 = ltb-true x 32 (limits a live) in
      (e, one h x c form.Holds (omega (arith, h.started)) (subst (Sat m (concept bk c)) (sym (h.named x lt)) (entered a live (named a (names_own a)))))
  keeps {br} named (role_fact {a = a} {r = r} {x = x} {y = y} live) e h =
      let p = and_parts (ltb r 16) (ltb x 32 && ltb y 32) (limits a live) in
      let q = and_parts (ltb x 32) (ltb y 32) p.1 in
      let x_lt : x < 32 = ltb-true x 32 q.0 in
      let y-lt : y < 32 = ltb-true y 32 q.1 in
      let t : m.roles r (m.individual x) (m.individual y) ≡ true = entered a live (named a (names_own a)) in
      let u : m.roles r (e x) (e y) ≡ true = (λ i. m.roles r (h.named x x_lt i) (h.named y y-lt i)) ∙ t in
      (e, grown bk m h _ _ tt ((omega (arith, h.started), omega (arith, h.started), role_linked m r (e x) (e y) (ltb-true r 16 p.0) ∙ u), tt))
  keeps named (not_holds {x = x} {c = c} says is) e h = (e, one h x c form.Fails (said bk m h says).0 (opened h says is))
  keeps named (not_fails {x = x} {c = c} says is) e h =
      (e, one h x c form.Holds (said bk m h says).0 ((Dec.not-not (membership_decided m (concept bk c) (e x))).0 (opened h says is)))
  keeps named (and_holds {x = x} {c = c} {d = d} says is) e h =
      let w = opened h says is in
      (e, two h x c d form.Holds form.Holds (said bk m h says).0 w.0 w.1)
  keeps named (or_fails {x = x} {c = c} {d = d} says is) e h =
      let w = opened h says is in
      (e, two h x c d form.Fails form.Fails (said bk m h says).0 (λ p. w (inl p)) (λ p. w (inr p)))
  keeps named (some_holds {x = x} {n = n} {r = r} {c = c} says is) e h =
      let w = opened h says is in
      reached h x r c form.Holds (said bk m h says).0 (node_limits n is) w.0 w.1 w.2 w.3
  keeps named (all_fails {x = x} {n = n} {r = r} {c = c} says is) e h =
      let w = counterexample m (concept bk c) r (e x) (opened h says is) in
      reached h x r c form.Fails (said bk m h says).0 (node_limits n is) w.0 w.1 w.2 w.3
  keeps named (all_holds {y = y} {n = n} {c = c} says is leads) e h =
      (e, one h y c form.Holds (led bk m h leads).1 (opened h says is (e y) (h.inside y) (by_role h leads (node_limits n is))))
  keeps named (some_fails {y = y} {n = n} {c = c} says is leads) e h =
      (e, one h y c form.Fails (led bk m h leads).1 (λ p. opened h says is (e y, h.inside y, by_role h leads (node_limits n is), p)))
  keeps named (typical_holds {x = x} {c = c} says is) e h =
      let w = opened h says is in
      (e, two h x c c form.Holds form.Bars (said bk m h says).0 w.0 w.1)
  keeps {br} named (admits {x = x} {c = c} says) e h =
      let k = br.next in
      let C = concept bk c in
      let w = admitted m C (e x) (said bk m h says).1 in
      let z = minimal m (Sat m C) (membership_decided m C) (e x) (h.inside x) w.0 w.1 w.2 w.3 in
      let y = z.0 in
      (put e k y, grown_new bk m h y z.1 _ _ (new_constraint bk m e k y c form.Holds z.3, (new_constraint bk m e k y c form.Bars z.4, tt)) (new_edge bk m e k y x 16 (said bk m h says).0 z.2, tt))
  keeps named (bars {x = x} {y = y} {c = c} says leads) e h =
      let b = (said bk m h says).1 in
      let t : m.better (e y) (e x) ≡ true = (led bk m h leads).2 in
      (e, two h y c c form.Fails form.Bars (led bk m h leads).1 (b (e y) (h.inside y) t) (λ z z-in u. b z z-in (m.transitive (e x) (e y) z (h.inside x) (h.inside y) z-in u t)))

  -- a splitting rule keeps one of its two sides true
  covers : {br left right : Branch} {s : Step} → NamedTrue m bk (s ∷ []) → Splits bk br s left right → (e : ℕ → ℕ) → Meets bk m e br → Meets bk m e left ⊎ Meets bk m e right
  covers {br} {left} {right} named (inclusion {a = a} {x = x} {c = c} {d = d} live within) e h = go (membership_decided m (concept bk c) (e x))
    where
      go : Dec (Sat m (concept bk c) (e x)) → Meets bk m e left ⊎ Meets bk m e right
      go (yes p) = inr (one h x d form.Holds within (entered a live (named a (names_own a)) (e x) (h.inside x) p))
      go (no q) = inl (one h x c form.Fails within q)
  covers named (or_holds {x = x} {c = c} {d = d} says is) e h =
      ⊎_elim (λ p. inl (one h x c form.Holds (said bk m h says).0 p)) (λ p. inr (one h x d form.Holds (said bk m h says).0 p)) (opened h says is)
  covers {br} {left} {right} named (and_fails {x = x} {c = c} {d = d} says is) e h = go (membership_decided m (concept bk c) (e x))
    where
      go : Dec (Sat m (concept bk c) (e x)) → Meets bk m e left ⊎ Meets bk m e right
      go (yes p) = inr (one h x d form.Fails (said bk m h says).0 (λ q. opened h says is (p, q)))
      go (no q) = inl (one h x c form.Fails (said bk m h says).0 q)
  covers {br} {left} {right} named (typical_fails {x = x} {c = c} says is) e h = go (membership_decided m (concept bk c) (e x))
    where
      go : Dec (Sat m (concept bk c) (e x)) → Meets bk m e left ⊎ Meets bk m e right
      go (yes p) = inr (one h x c form.Admits (said bk m h says).0 (λ b. opened h says is (p, b)))
      go (no q) = inl (one h x c form.Fails (said bk m h says).0 q)

  -- a branch that closes is true of no model
  clashes : {br : Branch} {s : Step} → Closes bk br s → (e : ℕ → ℕ) → Meets bk m e br → ⊥
  clashes (holds_and_fails p q) e h = (said bk m h q).1 (said bk m h p).1
  clashes (bars_and_admits p q) e h = (said bk m h q).1 (said bk m h p).1
  clashes (bottom_holds says is) e h = opened h says is
  clashes (top_fails says is) e h = opened h says is tt

  -- a list of steps names what its parts name
  first : (ss ts : List Step) → NamedTrue m bk (ss ++ ts) → NamedTrue m bk ss
  first ss ts h i n = h i (names_left ss ts i n)

  rest : (ss ts : List Step) → NamedTrue m bk (ss ++ ts) → NamedTrue m bk ts
  rest ss ts h i n = h i (names_right ss ts i n)

  closed : {br : Branch} (t : Closed bk br) → NamedTrue m bk (writing t) → (e : ℕ → ℕ) → Meets bk m e br → ⊥
  closed (close r) named e h = clashes r e h
  closed (extend {s = s} r t) named e h =
      let k = keeps (first (s ∷ []) (writing t) named) r e h in
      closed t (rest (s ∷ []) (writing t) named) k.0 k.1
  closed (split {s = s} r t u) named e h =
      let both = rest (s ∷ []) (writing t ++ writing u) named in
      ⊎_elim
      (closed t (first (writing t) (writing u) both) e)
      (closed u (rest (writing t) (writing u) both) e)
      (covers (first (s ∷ []) (writing t ++ writing u) named) r e h)

pub soundness : Soundness
soundness bk well t m named = let b = begins bk m in closed bk well m t named b.0 b.1

-- a model of the live entries makes those true that are named
pub no_model : NoModel
no_model bk well t m sat = soundness bk well t m (λ i n. let l = named_live bk t i n in subst (λ k. HoldsIn m bk k.entry) (sym l.1) (sat i l.0 l.1))
