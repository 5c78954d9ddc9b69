use Rattle.models.proofs.Gathering.{best_means}
use Rattle.models.proofs.sets.typical.Goals as goal

pub returns : goal.returns
returns g c = best_means (g.O.Order.meaning c.args.order.now) (g.O.Order.strict c.args.order.now) c.args.set _ cc
