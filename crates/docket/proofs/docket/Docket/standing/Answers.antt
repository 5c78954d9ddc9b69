use Rattle.std.proofs.Common.{refl, ap}
use Rattle.docket.proofs.Calls.{one, made}
use Rattle.docket.proofs.docket.Docket.standing.Goals as goal

pub returns : goal.returns
returns g c = record {
  answer = ap (λ d. d.standing) c.self.view_is;
  run = rw (← c.self.view_is) (one (made _ _ _ refl refl refl refl));
  reached = rw (← c.self.view_is) c.self.invariant;
  law = λ h r. c.docket_law.ensures.law h _ r;
}
