use Rattle.std.proofs.Common.{Ok, Err, refl}
use Rattle.std.proofs.Math.Path.{fun_ext}
use Rattle.judge.specs.Blanks.{lengths}
use Rattle.docket.specs.Events.{Event.refute}
use Rattle.logic.proofs.Mapping.{err_is}
use Rattle.docket.proofs.Calls.{one, on, made}
use Rattle.docket.proofs.docket.Docket.refute.Goals as goal

pub returns-in_err-used-clause-run : goal.returns-in_err-used-clause-run
returns-in_err-used-clause-run g c =
    rw (err_is _ c.from_residual.ensures.1, ← c.self.view_is) (one (made _ _ _ (Err _, refl, (Err _, refl, c.in_err-used.ensures.answer)) refl refl refl))

pub returns-clause-run : goal.returns-clause-run
returns-clause-run g c =
    rw (← c.self.view_is) (one (made _ _ _ (Ok _, refl, (Ok _, rw c.count-count.ensures refl, c.in_ok-used.ensures.answer)) refl c.follow.ensures (fun_ext (c.in_ok-used.ensures.answer.accepted _ refl).named)))

pub invariant_of-self : goal.invariant_of-self
invariant_of-self g c =
    on (refute c.args.bytes.now (lengths c.args.constraints.now c.args.edges.now c.args.splits.now) (Ok c.count-count.result)) _ _ c.self.invariant
    (made _ _ _ (Ok _, refl, (Ok _, rw c.count-count.ensures refl, c.in_ok-used.ensures.answer)) refl c.follow.ensures (fun_ext (c.in_ok-used.ensures.answer.accepted _ refl).named))
