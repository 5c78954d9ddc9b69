use Rattle.logic.proofs.Reading.{concepts_stay}
use Rattle.logic.proofs.laws.concepts_stay.Goals as goal

pub returns : goal.returns
returns c = concepts_stay
