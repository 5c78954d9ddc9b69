use Rattle.std.proofs.Common.{rules, arith}
use Rattle.orders.specs.RankLaws.{order_of_ranks}
use Rattle.orders.proofs.Strictness.{ranked_strict, table_strict}
use Rattle.orders.proofs.ranks.ByRanksEncoding.read.Goals as goal

pub of-requires : goal.of-requires
of-requires c = search (rules, arith, ranked_strict, table_strict (order_of_ranks c.args.bytes.now))
