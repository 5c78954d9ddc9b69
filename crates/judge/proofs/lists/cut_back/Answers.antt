use Rattle.std.proofs.Common.{arith}
use Rattle.judge.proofs.Listing.{blanked_mid}
use Rattle.judge.proofs.lists.cut_back.Goals as goal

pub returns-else-end-to-eq1 : goal.returns-else-end-to-eq1
returns-else-end-to-eq1 g c =
    blanked_mid g.T.Blank.zeroed c.args.to c.min-end.result c.args.len c.args.list.now c.clear.new.list (omega arith) c.min-end.ensures c.clear.ensures
