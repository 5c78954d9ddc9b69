use Rattle.std.proofs.Common.{sym}
use Rattle.std.proofs.lemmas.Bool.{leb-true}
use Rattle.judge.proofs.Showing.{extend_ok}
use Rattle.judge.proofs.working.Lists.extend.Goals as goal

pub returns-clause-transforms : goal.returns-clause-transforms
returns-clause-transforms c =
    λ σ h.
    extend_ok σ.branch σ.pending c.args.at c.args.self.now.constraints.now c.args.self.now.edges.now c.args.self.now.splits.now h
    c.args.cs.now c.args.es.now c.append.new.list c.append-2.new.list
    (leb-true _ _ (sym c.in_ok-append.ensures.room)) (leb-true _ _ (sym c.in_ok-append-2.ensures.room)) c.in_ok-append.ensures.list c.in_ok-append-2.ensures.list
