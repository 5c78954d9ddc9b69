-- Which fault a decision answers, by the tests that a step fails. Assumes nothing.
use Rattle.std.proofs.Common.{◌≡◌, ℕ, Bool, true, false, cond, not, ◌&&◌, ◌||◌, ltb, leb, ◌⊎◌, length, get_or, Some, None, Ok, Err, Option, Result, refl, ◌∙◌, subst, inl, inr, arith}
use Rattle.std.specs.Option.{ok_or}
use Rattle.std.proofs.lemmas.Bool.{both_ways, cond-true, cond-false}
use Rattle.logic.specs.declared.tableau.Step.{Step}
use Rattle.logic.specs.Books.{Book, stored_at, node_at}
use Rattle.logic.specs.Branches.{Branch}
use Rattle.logic.specs.Limits.{Lengths}
use Rattle.logic.specs.Rules.{NoRule}
use Rattle.judge.specs.declared.ops.Op.{Op}
use Rattle.judge.specs.declared.effect.Effect.{Effect}
use Rattle.judge.specs.declared.effect.Effect.TheVariants.{Adds, AddsTwo, Links, Grows, GrowsTwo, Splits as Splitting, Closes as Closing}
use Rattle.judge.specs.declared.step_fault.StepFault.{StepFault}
use Rattle.judge.specs.declared.step_fault.StepFault.TheVariants.{Malformed, NeverEntered, NotThere, Struck, Misfit, Full}
use Rattle.judge.specs.Blanks.{no_constraint}
use Rattle.judge.specs.Ops.{op_of, operand_of, names_entry, unused_not_zero, has_operand, has_operands, test_op, malformed, never_entered, lacks_operand, names_struck}
use Rattle.judge.specs.StepEffects.{operand_records, constraint_effect, entry_effect, by_entry, by_constraint, by_known_op, step_effect}
use Rattle.judge.specs.Reasons.{WellNamed, NoRoom, StepReason}
use Rattle.judge.proofs.Agreeing.{does, closes_decides, splits_decides, extends_decides}

-- a test failed before any rule is tried, or none did
abbrev FirstFailing : Bool → Bool → Bool → Bool → Result Effect StepFault → Type 0
FirstFailing bad never away dead (Ok e) = (bad ≡ false) × (never ≡ false) × (away ≡ false) × (dead ≡ false)
FirstFailing bad never away dead (Err Malformed) = bad ≡ true
FirstFailing bad never away dead (Err NeverEntered) = (bad ≡ false) × (never ≡ true)
FirstFailing bad never away dead (Err NotThere) = (bad ≡ false) × (never ≡ false) × (away ≡ true)
FirstFailing bad never away dead (Err Struck) = (bad ≡ false) × (never ≡ false) × (away ≡ false) × (dead ≡ true)
FirstFailing bad never away dead (Err Misfit) = (bad ≡ false) × (never ≡ false) × (away ≡ false) × (dead ≡ false)
FirstFailing bad never away dead (Err Full) = ⊥

-- the tests in their order: p an unused operand, q an entry is named, n never entered, t what operand b
-- names is there, h the constraint is there, l the entry is live
abbrev in_order : Bool → Bool → Bool → Bool → Bool → Bool → Option Effect → Option Effect → Result Effect StepFault
in_order p q n t h l x y =
    cond p (Err Malformed)
    (cond q (cond n (Err NeverEntered) (cond t (cond l (ok_or x Misfit) (Err Struck)) (Err NotThere))) (cond (h && t) (ok_or y Misfit) (Err NotThere)))

fitted : (x : Option Effect) → FirstFailing false false false false (ok_or x Misfit)
fitted None = (refl, refl, refl, refl)
fitted (Some e) = (refl, refl, refl, refl)

first_failing : (p q n t h l : Bool) (x y : Option Effect) → FirstFailing p (q && n) (not ((q || h) && t)) (q && not l) (in_order p q n t h l x y)
first_failing true q n t h l x y = refl
first_failing false true true t h l x y = (refl, refl)
first_failing false true false false h l x y = (refl, refl, refl)
first_failing false true false true h false x y = (refl, refl, refl, refl)
first_failing false true false true h true x y = fitted x
first_failing false false n t false l x y = (refl, refl, refl)
first_failing false false n false true l x y = (refl, refl, refl)
first_failing false false n true true l x y = fitted y

-- the first test that fails
abbrev first_failed : Bool → Bool → Bool → Bool → Option StepFault
first_failed bad never away dead =
    cond bad (Some Malformed) (cond never (Some NeverEntered) (cond away (Some NotThere) (cond dead (Some Struck) None)))

failed : (p q n t h l : Bool) (x y : Option Effect) (f : StepFault) → first_failed p (q && n) (not ((q || h) && t)) (q && not l) ≡ Some f → in_order p q n t h l x y ≡ Err f
failed true q n t h l x y f e = cc
failed false true true t h l x y f e = cc
failed false true false false h l x y f e = cc
failed false true false true h false x y f e = cc
failed false true false true h true x y f e = let z : ◌≡◌ {A = ℕ} 0 1 = cc in absurd (omega arith)
failed false false n t false l x y f e = cc
failed false false n false true l x y f e = cc
failed false false n true true l x y f e = let z : ◌≡◌ {A = ℕ} 0 1 = cc in absurd (omega arith)

module _ (bk : Book) (br : Branch) (s : Step) where
  -- the four tests
  abbrev Sorted : Result Effect StepFault → Type 0
  Sorted r = FirstFailing (malformed s) (never_entered bk s) (lacks_operand br s) (names_struck bk s) r

  sorted_op : (o : Option Op) → FirstFailing (test_op true (λ p. unused_not_zero (operand_of p) s.b) o) (test_op false (λ p. names_entry p && leb (length bk.entries) s.a) o) (test_op false (λ p. not (has_operands p br s)) o) (test_op false (λ p. names_entry p && not (stored_at bk s.a).live) o) (by_known_op bk br s o)
  unfolding by_entry by_constraint
  sorted_op None = refl
  sorted_op (Some o) =
      let c = get_or br.constraints s.a no_constraint in
      first_failing (unused_not_zero (operand_of o) s.b) (names_entry o) (leb (length bk.entries) s.a) (has_operand (operand_of o) br s.b) (ltb s.a (length br.constraints)) (stored_at bk s.a).live
      (entry_effect (stored_at bk s.a).entry o s.b) (constraint_effect o c (node_at bk c.node) (operand_records (operand_of o) br s.b).0 (operand_records (operand_of o) br s.b).1)

  sorted : (r : Result Effect StepFault) → step_effect bk br s ≡ r → Sorted r
  sorted r h = subst Sorted h (sorted_op (op_of s.op))

  failed_op : (o : Option Op) (f : StepFault) → first_failed (test_op true (λ p. unused_not_zero (operand_of p) s.b) o) (test_op false (λ p. names_entry p && leb (length bk.entries) s.a) o) (test_op false (λ p. not (has_operands p br s)) o) (test_op false (λ p. names_entry p && not (stored_at bk s.a).live) o) ≡ Some f → by_known_op bk br s o ≡ Err f
  unfolding by_entry by_constraint
  failed_op None f e = cc
  failed_op (Some o) f e =
      let c = get_or br.constraints s.a no_constraint in
      failed (unused_not_zero (operand_of o) s.b) (names_entry o) (leb (length bk.entries) s.a) (has_operand (operand_of o) br s.b) (ltb s.a (length br.constraints)) (stored_at bk s.a).live
      (entry_effect (stored_at bk s.a).entry o s.b) (constraint_effect o c (node_at bk c.node) (operand_records (operand_of o) br s.b).0 (operand_records (operand_of o) br s.b).1) f e

  by_tests : (f : StepFault) → first_failed (malformed s) (never_entered bk s) (lacks_operand br s) (names_struck bk s) ≡ Some f → step_effect bk br s ≡ Err f
  by_tests f e = failed_op (op_of s.op) f e

  module _ (ls : Lengths) (pending : ℕ) where
    differ : {A : Type 0} (e : Effect) (f : StepFault) → step_effect bk br s ≡ Ok e → step_effect bk br s ≡ Err f → A
    differ e f p q = let z : ◌≡◌ {A = ℕ} 0 1 = cc in absurd (omega arith)

    no_rule : (f : StepFault) → step_effect bk br s ≡ Err f → NoRule bk br s
    no_rule f h =
        record {
          extends = λ b r. let g = extends_decides bk br s b r in differ g.0 f g.1 h;
          splits = λ l r k. let g = splits_decides bk br s l r k in differ (Splitting g.0 g.1) f g.2 h;
          closes = λ r. differ Closing f (closes_decides bk br s r) h;
        }

    -- a decision that refuses has its reason
    pub because : (f : StepFault) → step_effect bk br s ≡ Err f → StepReason bk ls f br pending s
    because Malformed h = sorted (Err Malformed) h
    because NeverEntered h = sorted (Err NeverEntered) h
    because NotThere h = sorted (Err NotThere) h
    because Struck h = sorted (Err Struck) h
    because Misfit h =
        let t = sorted (Err Misfit) h in
        (record { formed = t.0; entered = t.1; present = t.2; live = t.3 }, no_rule Misfit h)
    because Full h = absurd (sorted (Err Full) h)

    ruled : (e : Effect) → step_effect bk br s ≡ Ok e → NoRule bk br s → ⊥
    ruled (Adds c) h n = n.extends _ (does bk br s (Adds c) h)
    ruled (AddsTwo c d) h n = n.extends _ (does bk br s (AddsTwo c d) h)
    ruled (Links e) h n = n.extends _ (does bk br s (Links e) h)
    ruled (Grows x r f m) h n = n.extends _ (does bk br s (Grows x r f m) h)
    ruled (GrowsTwo x r f g m) h n = n.extends _ (does bk br s (GrowsTwo x r f g m) h)
    ruled (Splitting c d) h n = n.splits _ _ (does bk br s (Splitting c d) h)
    ruled Closing h n = n.closes (does bk br s Closing h)

    misfit : WellNamed bk br s → NoRule bk br s → step_effect bk br s ≡ Err Misfit
    misfit m n = go (step_effect bk br s) refl
      where
        go : (r : Result Effect StepFault) → step_effect bk br s ≡ r → r ≡ Err Misfit
        go (Ok e) h = absurd (ruled e h n)
        go (Err Malformed) h = absurd (both_ways _ m.formed (sorted (Err Malformed) h))
        go (Err NeverEntered) h = absurd (both_ways _ m.entered (sorted (Err NeverEntered) h).1)
        go (Err NotThere) h = absurd (both_ways _ m.present (sorted (Err NotThere) h).2)
        go (Err Struck) h = absurd (both_ways _ m.live (sorted (Err Struck) h).3)
        go (Err Misfit) h = refl
        go (Err Full) h = absurd (sorted (Err Full) h)

    -- where there is a reason, the step is refused for it, unless it is for want of room
    pub refuses : (f : StepFault) → StepReason bk ls f br pending s → (step_effect bk br s ≡ Err f) ⊎ ((f ≡ Full) × NoRoom bk ls br pending s)
    refuses Malformed b = inl (by_tests Malformed (cond-true _ _ _ b))
    refuses NeverEntered b = inl (by_tests NeverEntered (cond-false _ _ _ b.0 ∙ cond-true _ _ _ b.1))
    refuses NotThere b = inl (by_tests NotThere (cond-false _ _ _ b.0 ∙ cond-false _ _ _ b.1 ∙ cond-true _ _ _ b.2))
    refuses Struck b = inl (by_tests Struck (cond-false _ _ _ b.0 ∙ cond-false _ _ _ b.1 ∙ cond-false _ _ _ b.2 ∙ cond-true _ _ _ b.3))
    refuses Misfit b = inl (misfit b.0 b.1)
    refuses Full b = inr (refl, b)
