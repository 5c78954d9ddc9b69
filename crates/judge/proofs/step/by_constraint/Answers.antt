use Rattle.std.proofs.Common.{sym, ap, ◌∙◌, arith}
use Rattle.std.specs.Option.{ok_or}
use Rattle.logic.proofs.Lawfulness.{node_within}
use Rattle.judge.specs.declared.step_fault.StepFault.TheVariants.{Misfit}
use Rattle.judge.specs.Ops.{has_operand}
use Rattle.judge.specs.StepEffects.{operand_records}
use Rattle.judge.proofs.Parting.{constraint_past, constraint_not_there, constraint_found}
use Rattle.judge.proofs.Listing.{listed_read}
use Rattle.judge.proofs.Showing.{counted}
use Rattle.judge.proofs.step.by_constraint.Goals as goal

pub constraint_effect-requires : goal.constraint_effect-requires
constraint_effect-requires g c =
    let bk = g.B.ReadableBook.meaning c.args.book.now in
    rw c.node_at.ensures (node_within bk (g.B.ReadableBook.lawful c.args.book.now).well_formed c.record_at-c.result.node).0

pub returns-then-a-at : goal.returns-then-a-at
returns-then-a-at g c =
    λ σ h.
    elim c.then-a-at.branch [
      | goal.then-a-at-via-then-a-at w ↦ constraint_past _ σ.branch c.args.op c.args.step (omega (arith, h.constraints.count, w.if-a-at.true))
      | goal.then-a-at-via-else-a-at+then-not-has_operand w ↦
          constraint_not_there _ σ.branch c.args.op c.args.step
          (ap (λ v. has_operand v σ.branch c.args.step.b) (sym w.second.ensures) ∙ sym (w.has_operand.ensures σ.branch (counted _ _ _ _ _ _ h)) ∙ w.if-not-has_operand.true)
    ]

pub returns : goal.returns
returns g c =
    λ σ h.
    constraint_found _ σ.branch c.args.op c.args.step c.record_at-c.result c.node_at.result c.operand_records.result _
    (omega (arith, h.constraints.count))
    (ap (λ v. has_operand v σ.branch c.args.step.b) (sym c.second.ensures) ∙ sym (c.has_operand.ensures σ.branch (counted _ _ _ _ _ _ h)) ∙ c.if-not-has_operand.false)
    (rw c.record_at-c.ensures (listed_read _ _ _ _ c.args.step.a h.constraints)) c.node_at.ensures
    (c.operand_records.ensures σ h ∙ ap (λ v. operand_records v σ.branch c.args.step.b) c.second-2.ensures)
    (c.ok_or.ensures.value ∙ ap (λ v. ok_or v Misfit) c.constraint_effect.ensures)
