use Rattle.logic.proofs.Examples.{examples}
use Rattle.logic.proofs.laws.examples_hold.Goals as goal

pub returns : goal.returns
returns c = examples
