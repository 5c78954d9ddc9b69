use Rattle.std.proofs.Common.{refl}
use Rattle.models.specs.Samples.{sample_bytes}
use Rattle.models.proofs.sample.model_bytes.Goals as goal

pub returns : goal.returns
unfolding sample_bytes
returns c = refl
