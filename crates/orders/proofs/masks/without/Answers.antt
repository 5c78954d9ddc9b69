use Rattle.orders.proofs.MaskBits.{has-without}
use Rattle.orders.proofs.masks.without.Goals as goal

pub returns : goal.returns
returns c = λ x. has-without c.args.set c.args.other x
