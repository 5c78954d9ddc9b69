use Rattle.std.proofs.Common.{rules, arith, refl}
use Rattle.orders.specs.PairLaws.{order_of_pairs}
use Rattle.orders.proofs.Strictness.{paired_lawful, table_strict}
use Rattle.orders.proofs.pairs.ByPairsEncoding.read.Goals as goal

pub of-requires : goal.of-requires
of-requires c =
    let lawful = paired_lawful c.args.bytes.now c.rows_of.result (search (rules, arith)) c.rows_of.ensures c.in_default.ensures in
    table_strict (order_of_pairs c.args.bytes.now) c.rows_of.result c.rows_of.ensures lawful.1

pub returns-clause-exact : goal.returns-clause-exact
returns-clause-exact c = (λ _. paired_lawful c.args.bytes.now c.rows_of.result (search (rules, arith)) c.rows_of.ensures c.in_default.ensures, λ _. refl)
