use Rattle.verdict.proofs.Lengths.{lines_fit}
use Rattle.verdict.proofs.laws.lines_fit.Goals as goal

pub returns : goal.returns
returns c = lines_fit
