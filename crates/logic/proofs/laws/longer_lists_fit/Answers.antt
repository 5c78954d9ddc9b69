use Rattle.logic.proofs.Fitting.{longer_lists_fit}
use Rattle.logic.proofs.laws.longer_lists_fit.Goals as goal

pub returns : goal.returns
returns c = longer_lists_fit
