-- What a step is decided to do is what the rules of the calculus say. Assumes nothing.
use Rattle.std.proofs.Common.{◌≡◌, ℕ, ◌<◌, ◌≤◌, Bool, true, false, cond, ◌&&◌, eqb, ltb, leb, List, [], ◌∷◌, length, get_or, Some, None, Ok, Err, Option, Result, sym, refl, ap, ◌∙◌, subst, ⊎_elim, arith}
use Rattle.std.specs.Option.{ok_or}
use Rattle.std.proofs.lemmas.List.{get_or_default, get_or_past}
use Rattle.std.proofs.lemmas.Bool.{false≢true, not-false, and_parts, and_from, eqb-true, eq-eqb, ltb-true, lt-ltb, cond-true, cases_lt}
use Rattle.logic.specs.declared.records.Node.{Node}
use Rattle.logic.specs.declared.records.Node.TheVariants.{Top, Bottom, Not, And, Or, All, Exists, Typical}
use Rattle.logic.specs.declared.records.Entry.{Entry}
use Rattle.logic.specs.declared.records.Entry.TheVariants.{Inclusion, Fact, RoleFact}
use Rattle.logic.specs.declared.records.StoredEntry.{StoredEntry}
use Rattle.logic.specs.declared.tableau.Form.{Form}
use Rattle.logic.specs.declared.tableau.Form.TheVariants.{Holds, Fails, Bars, Admits}
use Rattle.logic.specs.declared.tableau.Constraint.{Constraint}
use Rattle.logic.specs.declared.tableau.Edge.{Edge}
use Rattle.logic.specs.declared.tableau.Step.{Step}
use Rattle.logic.specs.Places.{At}
use Rattle.logic.specs.Books.{Book, no_stored_entry, node_at, stored_at}
use Rattle.logic.specs.Satisfaction.{Live}
use Rattle.logic.specs.Branches.{Branch, constraint, edge, with, with_new, Says, Leads}
use Rattle.logic.specs.Rules.{step, Extends, fact, role_fact, not_holds, not_fails, and_holds, or_fails, some_holds, all_fails, all_holds, some_fails, typical_holds, admits, bars, Splits, inclusion, or_holds, and_fails, typical_fails, Closes, holds_and_fails, bars_and_admits, bottom_holds, top_fails}
use Rattle.judge.specs.declared.ops.Op.{Op}
use Rattle.judge.specs.declared.ops.Op.TheVariants as op
use Rattle.judge.specs.declared.ops.Operand.TheVariants.{Unused, Edge as EdgeOperand}
use Rattle.judge.specs.declared.effect.Effect.{Effect}
use Rattle.judge.specs.declared.effect.Effect.TheVariants.{Adds, AddsTwo, Links, Grows, GrowsTwo, Splits as Splitting, Closes as Closing}
use Rattle.judge.specs.declared.step_fault.StepFault.{StepFault}
use Rattle.judge.specs.declared.step_fault.StepFault.TheVariants.{Malformed, NeverEntered, NotThere, Struck, Misfit}
use Rattle.judge.specs.Blanks.{no_constraint, no_edge}
use Rattle.judge.specs.Ops.{op_of, operand_of, names_entry, unused_not_zero, has_operand}
use Rattle.judge.specs.Traces.{Does}
use Rattle.judge.specs.StepEffects.{along, is_on, denies, rule_effect, operand_records, constraint_effect, entry_effect, by_entry, by_constraint, by_op, by_known_op, step_effect}
use Rattle.judge.proofs.Parting.{entry_found, constraint_found}

-- the number of an op
abbrev number_of : Op → ℕ
number_of op.Assert = 1
number_of op.Include = 2
number_of op.Negation = 3
number_of op.Conjunction = 4
number_of op.Disjunction = 5
number_of op.Successor = 6
number_of op.AlongRole = 7
number_of op.Typical = 8
number_of op.Atypical = 9
number_of op.Better = 10
number_of op.AlongBetter = 11
number_of op.Clash = 12
number_of op.Absurd = 13

-- a number that has an op is the number of that op
one_of : (k j : ℕ) (x o : Op) (rest : Option Op) → j ≡ number_of x → (rest ≡ Some o → k ≡ number_of o) → cond (eqb k j) (Some x) rest ≡ Some o → k ≡ number_of o
one_of k j x o rest e f = go (eqb k j) refl
  where
    go : (b : Bool) → eqb k j ≡ b → cond b (Some x) rest ≡ Some o → k ≡ number_of o
    go true q h = let p : x ≡ o = cc in eqb-true k j q ∙ e ∙ ap number_of p
    go false q h = f h

none_of : (k : ℕ) (o : Op) → None ≡ Some o → k ≡ number_of o
none_of k o h = let z : ◌≡◌ {A = ℕ} 0 1 = cc in absurd (omega arith)

number_from : (k : ℕ) (o : Op) → op_of k ≡ Some o → k ≡ number_of o
number_from k o =
    one_of k 1 op.Assert o _ refl (
    one_of k 2 op.Include o _ refl (
    one_of k 3 op.Negation o _ refl (
    one_of k 4 op.Conjunction o _ refl (
    one_of k 5 op.Disjunction o _ refl (
    one_of k 6 op.Successor o _ refl (
    one_of k 7 op.AlongRole o _ refl (
    one_of k 8 op.Typical o _ refl (
    one_of k 9 op.Atypical o _ refl (
    one_of k 10 op.Better o _ refl (
    one_of k 11 op.AlongBetter o _ refl (
    one_of k 12 op.Clash o _ refl (
    one_of k 13 op.Absurd o _ refl (
    none_of k o)))))))))))))

-- what stands at a place
stands : {A : Type 0} (xs : List A) (i : ℕ) (d : A) → i < length xs → At xs i (get_or xs i d)
stands xs i d h = record { within = h; is = get_or_default xs i (get_or xs i d) d h }

-- the branch that an effect makes, without a split
abbrev pub extension : Effect → Branch → Option Branch
extension (Adds c) br = Some (with br (c ∷ []) [])
extension (AddsTwo c d) br = Some (with br (c ∷ d ∷ []) [])
extension (Links e) br = Some (with br [] (e ∷ []))
extension (Grows x r f n) br = Some (with_new br (constraint br.next f n ∷ []) (edge x r br.next ∷ []))
extension (GrowsTwo x r f g n) br = Some (with_new br (constraint br.next f n ∷ constraint br.next g n ∷ []) (edge x r br.next ∷ []))
extension (Splitting c d) br = None
extension Closing br = None

module _ (bk : Book) (br : Branch) (s : Step) where
  abbrev DoesSome : Option Effect → Type 0
  DoesSome None = Unit {0}
  DoesSome (Some e) = Does bk br s e

  abbrev DoesOk : Result Effect StepFault → Type 0
  DoesOk (Ok e) = Does bk br s e
  DoesOk (Err f) = Unit {0}

  fitting : (o : Option Effect) → DoesSome o → DoesOk (ok_or o Misfit)
  fitting None d = tt
  fitting (Some e) d = d

  where_true : (b : Bool) (o : Option Effect) → (b ≡ true → DoesSome o) → DoesSome (cond b o None)
  where_true true o f = f refl
  where_true false o f = tt

  tested : (b : Bool) (r : Result Effect StepFault) (f : StepFault) → (b ≡ true → DoesOk r) → DoesOk (cond b r (Err f))
  tested true r f h = h refl
  tested false r f h = tt

  refused : (b : Bool) (r : Result Effect StepFault) (f : StepFault) → (b ≡ false → DoesOk r) → DoesOk (cond b (Err f) r)
  refused true r f h = tt
  refused false r f h = h refl

  -- the step has this op, and its operand b is as the op asks
  record Asks (o : Op) : Type 0 where
    is : s.op ≡ number_of o
    used : unused_not_zero (operand_of o) s.b ≡ false
    here : has_operand (operand_of o) br s.b ≡ true

  -- the step, where its operand b is unused, and where it is not
  unary : (o : Op) → Asks o → operand_of o ≡ Unused → step (number_of o) s.a 0 ≡ s
  unary o h u =
      let z : s.b ≡ 0 = eqb-true s.b 0 (not-false _ (subst (λ v. unused_not_zero v s.b ≡ false) u h.used)) in
      sym (λ i. record { op = h.is i; a = s.a; b = z i })

  binary : (o : Op) → Asks o → step (number_of o) s.a s.b ≡ s
  binary o h = sym (λ i. record { op = h.is i; a = s.a; b = s.b })

  extend_by : (o : Op) (b : Branch) → Asks o → operand_of o ≡ Unused → Extends bk br (step (number_of o) s.a 0) b → Extends bk br s b
  extend_by o b h u r = subst (λ v. Extends bk br v b) (unary o h u) r

  extend_along : (o : Op) (b : Branch) → Asks o → Extends bk br (step (number_of o) s.a s.b) b → Extends bk br s b
  extend_along o b h r = subst (λ v. Extends bk br v b) (binary o h) r

  split_by : (o : Op) (b d : Branch) → Asks o → operand_of o ≡ Unused → Splits bk br (step (number_of o) s.a 0) b d → Splits bk br s b d
  split_by o b d h u r = subst (λ v. Splits bk br v b d) (unary o h u) r

  split_at : (o : Op) (b d : Branch) → Asks o → Splits bk br (step (number_of o) s.a s.b) b d → Splits bk br s b d
  split_at o b d h r = subst (λ v. Splits bk br v b d) (binary o h) r

  close_by : (o : Op) → Asks o → operand_of o ≡ Unused → Closes bk br (step (number_of o) s.a 0) → Closes bk br s
  close_by o h u r = subst (λ v. Closes bk br v) (unary o h u) r

  -- what stands where the step may name an edge or a constraint
  abbrev passed : Edge
  passed = get_or br.edges s.b no_edge

  abbrev other : Constraint
  other = get_or br.constraints s.b no_constraint

  -- the edge that the step names leads from x by role r
  passing : (o : Op) (x r : ℕ) (f : Effect) → Asks o → operand_of o ≡ EdgeOperand → (Leads br s.b x r passed.to → Does bk br s f) → DoesSome (along passed x r f)
  passing o x r f h u d =
      where_true _ (Some f)
      (λ t.
      let q = and_parts _ _ t in
      let from : passed.from ≡ x = eqb-true passed.from x q.0 in
      let role : passed.role ≡ r = eqb-true passed.role r q.1 in
      let within : s.b < length br.edges = ltb-true s.b (length br.edges) (subst (λ v. has_operand v br s.b ≡ true) u h.here) in
      d (subst (λ v. At br.edges s.b v) (λ i. edge (from i) (role i) passed.to) (stands br.edges s.b no_edge within)))

  clash_does : (f g : Form) (x n : ℕ) → Asks op.Clash → Says br s.a x f n → Says br s.b x g n → denies f g ≡ true → Closes bk br s
  clash_does Holds Fails x n h p q t = subst (λ v. Closes bk br v) (binary op.Clash h) (holds_and_fails p q)
  clash_does Bars Admits x n h p q t = subst (λ v. Closes bk br v) (binary op.Clash h) (bars_and_admits p q)
  clash_does _ _ x n h p q t = absurd (false≢true t)

  closing : (f : Form) (x n : ℕ) → Asks op.Clash → Says br s.a x f n → denies f other.form && is_on other x n ≡ true → Closes bk br s
  closing f x n h says t =
      let p = and_parts _ _ t in
      let q = and_parts _ _ p.1 in
      let label : other.label ≡ x = eqb-true other.label x q.0 in
      let node : other.node ≡ n = eqb-true other.node n q.1 in
      let within : s.b < length br.constraints = ltb-true s.b (length br.constraints) h.here in
      clash_does f other.form x n h says
      (subst (λ v. At br.constraints s.b v) (λ i. constraint (label i) other.form (node i)) (stands br.constraints s.b no_constraint within))
      p.0

  row_does : (o : Op) (f : Form) (m : Node) (x n : ℕ) → Asks o → Says br s.a x f n → node_at bk n ≡ m → DoesSome (rule_effect o f m x n (operand_records (operand_of o) br s.b).0 (operand_records (operand_of o) br s.b).1)
  row_does op.Negation Holds (Not c) x n h says at = extend_by op.Negation _ h refl (not_holds says at)
  row_does op.Negation Fails (Not c) x n h says at = extend_by op.Negation _ h refl (not_fails says at)
  row_does op.Conjunction Holds (And c d) x n h says at = extend_by op.Conjunction _ h refl (and_holds says at)
  row_does op.Conjunction Fails (Or c d) x n h says at = extend_by op.Conjunction _ h refl (or_fails says at)
  row_does op.Disjunction Holds (Or c d) x n h says at = split_by op.Disjunction _ _ h refl (or_holds says at)
  row_does op.Disjunction Fails (And c d) x n h says at = split_by op.Disjunction _ _ h refl (and_fails says at)
  row_does op.Successor Holds (Exists r c) x n h says at = extend_by op.Successor _ h refl (some_holds says at)
  row_does op.Successor Fails (All r c) x n h says at = extend_by op.Successor _ h refl (all_fails says at)
  row_does op.AlongRole Holds (All r c) x n h says at = passing op.AlongRole x r _ h refl (λ leads. extend_along op.AlongRole _ h (all_holds says at leads))
  row_does op.AlongRole Fails (Exists r c) x n h says at = passing op.AlongRole x r _ h refl (λ leads. extend_along op.AlongRole _ h (some_fails says at leads))
  row_does op.Typical Holds (Typical c) x n h says at = extend_by op.Typical _ h refl (typical_holds says at)
  row_does op.Atypical Fails (Typical c) x n h says at = split_by op.Atypical _ _ h refl (typical_fails says at)
  row_does op.Better Admits m x n h says at = extend_by op.Better _ h refl (admits says)
  row_does op.AlongBetter Bars m x n h says at = passing op.AlongBetter x 16 _ h refl (λ leads. extend_along op.AlongBetter _ h (bars says leads))
  row_does op.Clash f m x n h says at = where_true _ (Some Closing) (λ t. closing f x n h says t)
  row_does op.Absurd Holds Bottom x n h says at = close_by op.Absurd h refl (bottom_holds says at)
  row_does op.Absurd Fails Top x n h says at = close_by op.Absurd h refl (top_fails says at)
  row_does _ _ _ x n h says at = tt

  lived : (e : Entry) → (stored_at bk s.a).entry ≡ e → (stored_at bk s.a).live ≡ true → Live bk s.a e
  lived e p h = λ i. record { entry = p i; live = h i }

  cited_does : (e : Entry) (o : Op) → Asks o → (stored_at bk s.a).entry ≡ e → (stored_at bk s.a).live ≡ true → DoesSome (entry_effect e o s.b)
  cited_does (Inclusion c d) op.Include h p l = split_at op.Include _ _ h (inclusion (lived (Inclusion c d) p l) (ltb-true s.b br.next h.here))
  cited_does (Fact x c) op.Assert h p l = extend_by op.Assert _ h refl (fact (lived (Fact x c) p l))
  cited_does (RoleFact r x y) op.Assert h p l = extend_by op.Assert _ h refl (role_fact (lived (RoleFact r x y) p l))
  cited_does _ _ h p l = tt

  module _ (o : Op) (is : s.op ≡ number_of o) (used : unused_not_zero (operand_of o) s.b ≡ false) where
    entry_does : DoesOk (by_entry bk br o s)
    unfolding by_entry
    entry_does = go (leb (length bk.entries) s.a) (has_operand (operand_of o) br s.b) refl (stored_at bk s.a).live refl
      where
        go : (n t : Bool) → has_operand (operand_of o) br s.b ≡ t → (l : Bool) → (stored_at bk s.a).live ≡ l → DoesOk (cond n (Err NeverEntered) (cond t (cond l (ok_or (entry_effect (stored_at bk s.a).entry o s.b) Misfit) (Err Struck)) (Err NotThere)))
        go true t q l p = tt
        go false false q l p = tt
        go false true q false p = tt
        go false true q true p =
            fitting (entry_effect (stored_at bk s.a).entry o s.b) (cited_does (stored_at bk s.a).entry o (record { is = is; used = used; here = q }) refl p)

    constraint_does : DoesOk (by_constraint bk br o s)
    unfolding by_constraint
    constraint_does =
        tested (ltb s.a (length br.constraints) && has_operand (operand_of o) br s.b) _ NotThere
        (λ h.
        let p = and_parts _ _ h in
        let c = get_or br.constraints s.a no_constraint in
        fitting (constraint_effect o c (node_at bk c.node) (operand_records (operand_of o) br s.b).0 (operand_records (operand_of o) br s.b).1)
        (row_does o c.form (node_at bk c.node) c.label c.node (record { is = is; used = used; here = p.1 }) (stands br.constraints s.a no_constraint (ltb-true s.a (length br.constraints) p.0)) refl))

    either_does : (b : Bool) → DoesOk (cond b (by_entry bk br o s) (by_constraint bk br o s))
    either_does true = entry_does
    either_does false = constraint_does

  op_does : (o : Op) → s.op ≡ number_of o → DoesOk (by_op bk br s o)
  op_does o is = refused (unused_not_zero (operand_of o) s.b) (cond (names_entry o) (by_entry bk br o s) (by_constraint bk br o s)) Malformed (λ used. either_does o is used (names_entry o))

  -- an effect that is decided is that of a rule
  pub does : (e : Effect) → step_effect bk br s ≡ Ok e → Does bk br s e
  does e h = subst DoesOk h (go (op_of s.op) refl)
    where
      go : (o : Option Op) → op_of s.op ≡ o → DoesOk (by_known_op bk br s o)
      go None q = tt
      go (Some o) q = op_does o (number_from s.op o q)

-- a live entry was entered
pub live_within : (bk : Book) (a : ℕ) (e : Entry) → Live bk a e → a < length bk.entries
live_within bk a e live =
    ⊎_elim (λ (h : a < length bk.entries). h)
    (λ (h : length bk.entries ≤ a). absurd (false≢true (ap (λ (v : StoredEntry). v.live) (sym (get_or_past bk.entries a no_stored_entry h) ∙ live))))
    (cases_lt a (length bk.entries))

-- a rule decides its step
module _ (bk : Book) (br : Branch) where
  -- an op on a constraint that is there
  on_constraint : (o : Op) (a b x : ℕ) (f : Form) (n : ℕ) (m : Node) (e : Effect) → Says br a x f n → node_at bk n ≡ m → has_operand (operand_of o) br b ≡ true → constraint_effect o (constraint x f n) m (operand_records (operand_of o) br b).0 (operand_records (operand_of o) br b).1 ≡ Some e → by_constraint bk br o (step (number_of o) a b) ≡ Ok e
  on_constraint o a b x f n m e says at here q =
      sym (constraint_found bk br o (step (number_of o) a b) (constraint x f n) m _ _ says.within here
      (sym (get_or_default br.constraints a no_constraint _ says.within ∙ says.is)) (sym at) refl (sym (ap (λ v. ok_or v Misfit) q)))

  -- an op on a live entry
  on_entry : (o : Op) (a b : ℕ) (e : Entry) (f : Effect) → Live bk a e → has_operand (operand_of o) br b ≡ true → entry_effect e o b ≡ Some f → by_entry bk br o (step (number_of o) a b) ≡ Ok f
  on_entry o a b e f live here q =
      sym (entry_found bk br o (step (number_of o) a b) (live_within bk a e live) here (record { entry = e; live = true }) (sym live) _ refl (sym (ap (λ v. ok_or v Misfit) q)))

  -- along an edge that is there
  successors : (b x r y : ℕ) (f : Edge → Effect) → Leads br b x r y → along (get_or br.edges b no_edge) x r (f (get_or br.edges b no_edge)) ≡ Some (f (edge x r y))
  successors b x r y f leads =
      let p : get_or br.edges b no_edge ≡ edge x r y = get_or_default br.edges b no_edge _ leads.within ∙ leads.is in
      ap (λ v. along v x r (f v)) p ∙ cond-true _ _ _ (and_from _ _ (eq-eqb x x refl) (eq-eqb r r refl))

  edge_there : (b x r y : ℕ) → Leads br b x r y → ltb b (length br.edges) ≡ true
  edge_there b x r y leads = lt-ltb b (length br.edges) leads.within

  met : (a b x n : ℕ) (f g : Form) → Says br a x f n → Says br b x g n → denies f g ≡ true → step_effect bk br (step 12 a b) ≡ Ok Closing
  met a b x n f g p q h =
      let o : get_or br.constraints b no_constraint ≡ constraint x g n = get_or_default br.constraints b no_constraint _ q.within ∙ q.is in
      on_constraint op.Clash a b x f n (node_at bk n) Closing p refl (lt-ltb b (length br.constraints) q.within)
      (ap (λ v. cond (denies f v.form && is_on v x n) (Some Closing) None) o ∙ cond-true _ _ _ (and_from _ _ h (and_from _ _ (eq-eqb x x refl) (eq-eqb n n refl))))

  pub closes_decides : (s : Step) → Closes bk br s → step_effect bk br s ≡ Ok Closing
  closes_decides s (holds_and_fails {a = a} {b = b} {x = x} {n = n} p q) = met a b x n Holds Fails p q refl
  closes_decides s (bars_and_admits {a = a} {b = b} {x = x} {n = n} p q) = met a b x n Bars Admits p q refl
  closes_decides s (bottom_holds {a = a} {x = x} {n = n} says at) = on_constraint op.Absurd a 0 x Holds n Bottom Closing says at refl refl
  closes_decides s (top_fails {a = a} {x = x} {n = n} says at) = on_constraint op.Absurd a 0 x Fails n Top Closing says at refl refl

  -- the effect of a splitting rule
  abbrev pub Forks : Step → Branch → Branch → Type 0
  Forks s l r = (c : Constraint) × (d : Constraint) × (step_effect bk br s ≡ Ok (Splitting c d)) × (with br (c ∷ []) [] ≡ l) × (with br (d ∷ []) [] ≡ r)

  pub splits_decides : (s : Step) (l r : Branch) → Splits bk br s l r → Forks s l r
  splits_decides s l r (inclusion {a = a} {x = x} {c = c} {d = d} live within) =
      (_, _, on_entry op.Include a x (Inclusion c d) _ live (lt-ltb x br.next within) refl, refl, refl)
  splits_decides s l r (or_holds {a = a} {x = x} {n = n} {c = c} {d = d} says at) = (_, _, on_constraint op.Disjunction a 0 x Holds n (Or c d) _ says at refl refl, refl, refl)
  splits_decides s l r (and_fails {a = a} {x = x} {n = n} {c = c} {d = d} says at) = (_, _, on_constraint op.Disjunction a 0 x Fails n (And c d) _ says at refl refl, refl, refl)
  splits_decides s l r (typical_fails {a = a} {x = x} {n = n} {c = c} says at) = (_, _, on_constraint op.Atypical a 0 x Fails n (Typical c) _ says at refl refl, refl, refl)

  -- the effect of an extending rule
  abbrev pub GrowsTo : Step → Branch → Type 0
  GrowsTo s b = (e : Effect) × (step_effect bk br s ≡ Ok e) × (extension e br ≡ Some b)

  pub extends_decides : (s : Step) (b : Branch) → Extends bk br s b → GrowsTo s b
  extends_decides s b (fact {a = a} {x = x} {c = c} live) = (_, on_entry op.Assert a 0 (Fact x c) _ live refl refl, refl)
  extends_decides s b (role_fact {a = a} {r = r} {x = x} {y = y} live) = (_, on_entry op.Assert a 0 (RoleFact r x y) _ live refl refl, refl)
  extends_decides s b (not_holds {a = a} {x = x} {n = n} {c = c} says at) = (_, on_constraint op.Negation a 0 x Holds n (Not c) _ says at refl refl, refl)
  extends_decides s b (not_fails {a = a} {x = x} {n = n} {c = c} says at) = (_, on_constraint op.Negation a 0 x Fails n (Not c) _ says at refl refl, refl)
  extends_decides s b (and_holds {a = a} {x = x} {n = n} {c = c} {d = d} says at) = (_, on_constraint op.Conjunction a 0 x Holds n (And c d) _ says at refl refl, refl)
  extends_decides s b (or_fails {a = a} {x = x} {n = n} {c = c} {d = d} says at) = (_, on_constraint op.Conjunction a 0 x Fails n (Or c d) _ says at refl refl, refl)
  extends_decides s b (some_holds {a = a} {x = x} {n = n} {r = r} {c = c} says at) = (_, on_constraint op.Successor a 0 x Holds n (Exists r c) _ says at refl refl, refl)
  extends_decides s b (all_fails {a = a} {x = x} {n = n} {r = r} {c = c} says at) = (_, on_constraint op.Successor a 0 x Fails n (All r c) _ says at refl refl, refl)
  extends_decides s b (all_holds {a = a} {b = k} {x = x} {y = y} {n = n} {r = r} {c = c} says at leads) =
      (_, on_constraint op.AlongRole a k x Holds n (All r c) _ says at (edge_there k x r y leads) (successors k x r y (λ e. Adds (constraint e.to Holds c)) leads), refl)
  extends_decides s b (some_fails {a = a} {b = k} {x = x} {y = y} {n = n} {r = r} {c = c} says at leads) =
      (_, on_constraint op.AlongRole a k x Fails n (Exists r c) _ says at (edge_there k x r y leads) (successors k x r y (λ e. Adds (constraint e.to Fails c)) leads), refl)
  extends_decides s b (typical_holds {a = a} {x = x} {n = n} {c = c} says at) = (_, on_constraint op.Typical a 0 x Holds n (Typical c) _ says at refl refl, refl)
  extends_decides s b (admits {a = a} {x = x} {c = c} says) = (_, on_constraint op.Better a 0 x Admits c (node_at bk c) _ says refl refl refl, refl)
  extends_decides s b (bars {a = a} {b = k} {x = x} {y = y} {c = c} says leads) =
      (_, on_constraint op.AlongBetter a k x Bars c (node_at bk c) _ says refl (edge_there k x 16 y leads) (successors k x 16 y (λ e. AddsTwo (constraint e.to Fails c) (constraint e.to Bars c)) leads), refl)
