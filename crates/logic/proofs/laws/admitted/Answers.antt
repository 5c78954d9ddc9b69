use Rattle.logic.proofs.Membership.{admitted}
use Rattle.logic.proofs.laws.admitted.Goals as goal

pub returns : goal.returns
returns c = admitted
