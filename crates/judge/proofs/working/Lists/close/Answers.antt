use Rattle.std.proofs.Common.{sym, arith}
use Rattle.std.proofs.lemmas.Bool.{leb-false}
use Rattle.judge.proofs.Showing.{second_fits, close_back}
use Rattle.judge.proofs.working.Lists.close.Goals as goal

pub returns-in_err-append-clause-transforms : goal.returns-in_err-append-clause-transforms
returns-in_err-append-clause-transforms c =
    λ σ h.
    let fits = second_fits σ.branch σ.pending c.args.at c.args.self.now.constraints.now c.args.self.now.edges.now c.args.self.now.splits.now h
    c.in-Some.left (omega arith) c.cut_back-2.new.list c.cut_back-2.auto.list in
    absurd (omega (arith, fits, leb-false _ _ (sym c.in_err-append.ensures.room)))

pub returns-clause-transforms : goal.returns-clause-transforms
returns-clause-transforms c =
    λ σ h.
    close_back σ.branch σ.pending c.args.at c.args.self.now.constraints.now c.args.self.now.edges.now c.args.self.now.splits.now h
    c.in-Some.left (omega arith) c.cut_back-2.new.list c.append.new.list c.cut_back-3.new.list c.cut_back.new.list c.cut_back-2.auto.list c.cut_back-3.auto.list c.cut_back.auto.list
    c.cut_back.ensures c.cut_back-2.ensures c.cut_back-3.ensures c.in_ok-append.ensures.list
