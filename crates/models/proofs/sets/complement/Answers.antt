use Rattle.orders.proofs.MaskBits.{has-all_below}
use Rattle.models.specs.Views.{view_valid}
use Rattle.models.specs.Fields.{size}
use Rattle.models.proofs.sets.complement.Goals as goal

pub returns : goal.returns
returns c = λ x. cc (c.without.ensures x, has-all_below c.args.view.now.tables.size x (view_valid c.args.view.now size).1)
