use Rattle.std.proofs.Common.{Ok, Err, refl}
use Rattle.docket.specs.Events.{Event.show}
use Rattle.logic.proofs.Mapping.{err_is}
use Rattle.docket.proofs.Calls.{one, on, made}
use Rattle.docket.proofs.docket.Docket.show.Goals as goal

pub returns-in_err-n : goal.returns-in_err-n
returns-in_err-n g c =
    rw (err_is _ c.from_residual.ensures.1, ← c.self.view_is) (one (made _ _ _ (Err _, refl, rw c.show.auto.list c.in_err-n.ensures) refl refl refl))

pub returns : goal.returns
returns g c = rw (← c.self.view_is) (one (made _ _ _ (Ok _, refl, rw c.show.auto.list c.in_ok-n.ensures) refl c.follow.ensures refl))

pub invariant_of-self : goal.invariant_of-self
invariant_of-self g c =
    on (show c.args.bytes.now (g.O.Order.meaning c.args.order.now) c.show.new.list (Ok c.in_ok-n.n)) _ _ c.self.invariant (made _ _ _ (Ok _, refl, rw c.show.auto.list c.in_ok-n.ensures) refl c.follow.ensures refl)
