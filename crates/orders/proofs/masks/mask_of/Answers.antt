use Rattle.std.proofs.Common.{◌*◌, ◌%◌, ◌^◌, ◌∙◌, arith}
use mir.Val.{bool_byte}
use lib.Bits.{bit_or}
use Rattle.orders.proofs.Folds.{mask_more}
use Rattle.orders.proofs.masks.mask_of.Goals as goal

pub loop-x-preserved : goal.loop-x-preserved
loop-x-preserved g c =
    let x = c.loop-x.x in
    (λ i. bit_or (c.loop-x.invariant i) (bool_byte (c.test.ensures i) * 2 ^ x % 2 ^ 32))
    ∙ mask_more (g.P.Property.holds c.args.property.now) x (omega (arith, c.loop-x-test.true, c.min-x-end.ensures))
