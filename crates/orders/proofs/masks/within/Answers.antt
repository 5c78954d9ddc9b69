use Rattle.std.proofs.Common.{◌^◌, ◌<◌, min, arith}
use Rattle.std.proofs.lemmas.Nat.{pow_pos}
use Rattle.std.proofs.lemmas.Bool.{leb-true, le-leb}
use Rattle.orders.proofs.MaskBits.{below_within, within_below}
use Rattle.orders.proofs.masks.within.Goals as goal

pub returns : goal.returns
returns c =
    let set = c.args.set in
    let k = min c.args.n 32 in
    let small : set < 2 ^ 32 = omega arith in (
      λ t y h. omega (arith, below_within k set (omega (arith, leb-true _ _ t, c.all_below.ensures, pow_pos k)) y h),
      λ h. le-leb _ _ (omega (arith, within_below k set (λ y t. omega (arith, h y t, below_within 32 set small y t)), c.all_below.ensures)),
    )
