use Rattle.std.proofs.Common.{◌≡◌, ◌<◌, true, sym, ap, ◌∙◌, subst, arith}
use Rattle.std.specs.Option.{ok_or}
use Rattle.std.proofs.lemmas.Bool.{not-true, not-false, ltb-true}
use Rattle.judge.specs.declared.step_fault.StepFault.TheVariants.{Misfit}
use Rattle.logic.proofs.Lawfulness.{entry_within}
use Rattle.judge.specs.Ops.{operand_of, has_operand}
use Rattle.judge.proofs.Parting.{entry_never, entry_not_there, entry_struck, entry_found}
use Rattle.judge.proofs.Showing.{some_branch}
use Rattle.judge.proofs.step.by_entry.Goals as goal

pub entry_effect-requires-clause-label : goal.entry_effect-requires-clause-label
entry_effect-requires-clause-label g c =
    λ is.
    let some = some_branch c.args.at in
    let seen : has_operand (operand_of c.args.op) some.0 c.args.step.b ≡ true =
    ap (λ v. has_operand v some.0 c.args.step.b) (sym c.second.ensures) ∙ sym (c.has_operand.ensures some.0 some.1) ∙ c.if-not-has_operand.false in
    let below : c.args.step.b < some.0.next = ltb-true _ _ (subst (λ v. has_operand (operand_of v) some.0 c.args.step.b ≡ true) is seen) in
    omega (arith, some.1.labels, c.requires)

pub entry_effect-requires-clause-limits : goal.entry_effect-requires-clause-limits
entry_effect-requires-clause-limits g c =
    let bk = g.B.ReadableBook.meaning c.args.book.now in
    rw c.entry_at-stored.ensures (entry_within bk (g.B.ReadableBook.lawful c.args.book.now).well_formed c.args.step.a)

pub returns-then-step-entry_count : goal.returns-then-step-entry_count
returns-then-step-entry_count g c = λ br n. entry_never _ br c.args.op c.args.step (omega arith)

pub returns-then-not-has_operand : goal.returns-then-not-has_operand
returns-then-not-has_operand g c =
    λ br n.
    entry_not_there _ br c.args.op c.args.step (omega arith)
    (ap (λ v. has_operand v br c.args.step.b) (sym c.second.ensures) ∙ sym (c.has_operand.ensures br n) ∙ c.if-not-has_operand.true)

pub returns-then-not-stored : goal.returns-then-not-stored
returns-then-not-stored g c =
    λ br n.
    entry_struck _ br c.args.op c.args.step (omega arith)
    (ap (λ v. has_operand v br c.args.step.b) (sym c.second.ensures) ∙ sym (c.has_operand.ensures br n) ∙ c.if-not-has_operand.false)
    c.entry_at-stored.result c.entry_at-stored.ensures (not-true _ c.if-not-stored.true)

pub returns : goal.returns
returns g c =
    λ br n.
    entry_found _ br c.args.op c.args.step (omega arith)
    (ap (λ v. has_operand v br c.args.step.b) (sym c.second.ensures) ∙ sym (c.has_operand.ensures br n) ∙ c.if-not-has_operand.false)
    c.entry_at-stored.result c.entry_at-stored.ensures _ (not-false _ c.if-not-stored.false)
    (c.ok_or.ensures.value ∙ ap (λ v. ok_or v Misfit) c.entry_effect.ensures)
