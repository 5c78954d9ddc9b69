use Rattle.logic.proofs.Minimal.{minimal_exists}
use Rattle.logic.proofs.laws.minimal_exists.Goals as goal

pub returns : goal.returns
returns c = minimal_exists
