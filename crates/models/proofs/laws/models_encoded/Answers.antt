use Rattle.models.proofs.PairEncoding.{models_encoded}
use Rattle.models.proofs.laws.models_encoded.Goals as goal

pub returns : goal.returns
returns c = models_encoded
