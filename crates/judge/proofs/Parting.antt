-- The tests of a decision, one after the other. Assumes nothing.
use Rattle.std.proofs.Common.{◌≡◌, ◌<◌, ◌≤◌, true, false, length, get_or, Err, Result, sym, ap, ◌∙◌}
use Rattle.std.specs.Option.{ok_or}
use Rattle.std.proofs.lemmas.Bool.{cond-true, cond-false, and_from, and_left, and_right, lt-ltb, le-ltb, le-leb, lt-leb}
use Rattle.logic.specs.declared.records.Node.{Node}
use Rattle.logic.specs.declared.records.StoredEntry.{StoredEntry}
use Rattle.logic.specs.declared.tableau.Constraint.{Constraint}
use Rattle.logic.specs.declared.tableau.Edge.{Edge}
use Rattle.logic.specs.declared.tableau.Step.{Step}
use Rattle.logic.specs.Books.{Book, node_at, stored_at}
use Rattle.logic.specs.Branches.{Branch}
use Rattle.judge.specs.declared.ops.Op.{Op}
use Rattle.judge.specs.declared.effect.Effect.{Effect}
use Rattle.judge.specs.declared.step_fault.StepFault.{StepFault}
use Rattle.judge.specs.declared.step_fault.StepFault.TheVariants.{NeverEntered, NotThere, Struck, Misfit}
use Rattle.judge.specs.Blanks.{no_constraint}
use Rattle.judge.specs.Ops.{operand_of, has_operand}
use Rattle.judge.specs.StepEffects.{entry_effect, operand_records, constraint_effect, by_entry, by_constraint}

module _ (bk : Book) (br : Branch) (o : Op) (s : Step) where
  pub entry_never : length bk.entries ≤ s.a → Err NeverEntered ≡ by_entry bk br o s
  unfolding by_entry
  entry_never h = sym (cond-true _ _ _ (le-leb (length bk.entries) s.a h))

  module _ (h : s.a < length bk.entries) where
    pub entry_not_there : has_operand (operand_of o) br s.b ≡ false → Err NotThere ≡ by_entry bk br o s
    unfolding by_entry
    entry_not_there t = sym (cond-false _ _ _ (lt-leb (length bk.entries) s.a h) ∙ cond-false _ _ _ t)

    module _ (t : has_operand (operand_of o) br s.b ≡ true) (l : StoredEntry) (e : l ≡ stored_at bk s.a) where
      pub entry_struck : l.live ≡ false → Err Struck ≡ by_entry bk br o s
      unfolding by_entry
      entry_struck d =
          sym (cond-false _ _ _ (lt-leb (length bk.entries) s.a h) ∙ cond-true _ _ _ t ∙ cond-false _ _ _ (ap (λ (v : StoredEntry). v.live) (sym e) ∙ d))

      pub entry_found : (r : Result Effect StepFault) → l.live ≡ true → r ≡ ok_or (entry_effect l.entry o s.b) Misfit → r ≡ by_entry bk br o s
      unfolding by_entry
      entry_found r d q =
          q ∙ ap (λ (v : StoredEntry). ok_or (entry_effect v.entry o s.b) Misfit) e
          ∙ sym (cond-false _ _ _ (lt-leb (length bk.entries) s.a h) ∙ cond-true _ _ _ t ∙ cond-true _ _ _ (ap (λ (v : StoredEntry). v.live) (sym e) ∙ d))

  pub constraint_past : length br.constraints ≤ s.a → Err NotThere ≡ by_constraint bk br o s
  unfolding by_constraint
  constraint_past h = sym (cond-false _ _ _ (and_left _ _ (le-ltb s.a (length br.constraints) h)))

  pub constraint_not_there : has_operand (operand_of o) br s.b ≡ false → Err NotThere ≡ by_constraint bk br o s
  unfolding by_constraint
  constraint_not_there t = sym (cond-false _ _ _ (and_right _ _ t))

  pub constraint_found : (c : Constraint) (n : Node) (e : Edge × Constraint) (r : Result Effect StepFault) → s.a < length br.constraints → has_operand (operand_of o) br s.b ≡ true → c ≡ get_or br.constraints s.a no_constraint → n ≡ node_at bk c.node → e ≡ operand_records (operand_of o) br s.b → r ≡ ok_or (constraint_effect o c n e.0 e.1) Misfit → r ≡ by_constraint bk br o s
  unfolding by_constraint
  constraint_found c n e r h t ec en ee q =
      q
      ∙ ap (λ v. ok_or (constraint_effect o c v e.0 e.1) Misfit) en
      ∙ ap (λ v. ok_or (constraint_effect o v (node_at bk v.node) e.0 e.1) Misfit) ec
      ∙ ap (λ (v : Edge × Constraint). ok_or (constraint_effect o c' (node_at bk c'.node) v.0 v.1) Misfit) ee
      ∙ sym (cond-true _ _ _ (and_from _ _ (lt-ltb s.a (length br.constraints) h) t))
    where
      c' : Constraint
      c' = get_or br.constraints s.a no_constraint
