use Rattle.std.proofs.lemmas.Bool.{eqb-true, eq-eqb}
use Rattle.orders.proofs.MaskBits.{union_includes, includes_union}
use Rattle.orders.proofs.masks.includes.Goals as goal

pub returns : goal.returns
returns c = (λ t. union_includes c.args.set c.args.other (eqb-true _ _ t), λ h. eq-eqb _ _ (includes_union c.args.set c.args.other h))
