use Rattle.orders.proofs.MaskBits.{mask_has}
use Rattle.orders.proofs.laws.mask_has.Goals as goal

pub returns : goal.returns
returns c = mask_has
