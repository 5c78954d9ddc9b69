use Rattle.std.proofs.Common.{◌≡◌, sym, rules, arith}
use Rattle.orders.specs.RankLaws.{order_of_ranks}
use Rattle.orders.proofs.Making.{made_at}
use Rattle.orders.proofs.Strictness.{ranked_past}
use Rattle.orders.proofs.ranks.rows_of.Goals as goal

pub returns : goal.returns
returns c =
    let rs = c.args.ranks.now in
    made_at (λ x row. row ≡ (order_of_ranks rs).better x) c.from_fn.ensures.items (λ x row q l k. search rules) 0 (λ x h. sym (ranked_past rs x (omega (arith, c.requires))))
