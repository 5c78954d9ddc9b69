use Rattle.std.proofs.Common.{◌≡◌, ◌*◌, sym, rules, arith}
use Rattle.orders.specs.PairLaws.{order_of_pairs}
use Rattle.orders.proofs.Making.{made_at}
use Rattle.orders.proofs.Strictness.{word_past}
use Rattle.orders.proofs.pairs.rows_of.Goals as goal

pub returns : goal.returns
returns c =
    let bs = c.args.bytes.now in
    made_at (λ x row. row ≡ (order_of_pairs bs).better x) c.from_fn.ensures.items (λ x row q l k. search rules) 0 (λ x h. sym (word_past bs (4 * x) (omega (arith, c.requires))))
