use Rattle.std.proofs.Common.{◌/◌, ◌^◌, ◌<◌, eqb, sym, ap, ◌∙◌, arith}
use Rattle.std.proofs.lemmas.Nat.{and_mask}
use Rattle.std.proofs.lemmas.Bool.{le-ltb}
use Rattle.orders.proofs.MaskBits.{has_shift, below_within, never}
use Rattle.orders.proofs.masks.contains.Goals as goal

pub returns-then-x-lt-ELEMENTS : goal.returns-then-x-lt-ELEMENTS
returns-then-x-lt-ELEMENTS c =
    ap (λ m. eqb m 1) (and_mask (c.args.set / 2 ^ c.args.x) 1) ∙ sym (has_shift c.args.set c.args.x)

pub returns-else-x-lt-ELEMENTS : goal.returns-else-x-lt-ELEMENTS
returns-else-x-lt-ELEMENTS c =
    let small : c.args.set < 2 ^ 32 = omega arith in
    le-ltb c.args.x 32 (omega arith) ∙ sym (never _ (λ t. omega (arith, below_within 32 c.args.set small c.args.x t)))
