use Rattle.logic.proofs.Likeness.{alike_satisfy}
use Rattle.logic.proofs.laws.alike_satisfy.Goals as goal

pub returns : goal.returns
returns c = alike_satisfy
