use Rattle.logic.proofs.Membership.{membership_decided}
use Rattle.logic.proofs.laws.membership_decided.Goals as goal

pub returns : goal.returns
returns c = membership_decided
