use Rattle.verdict.proofs.Readings.{decimals_read}
use Rattle.verdict.proofs.laws.decimals_read.Goals as goal

pub returns : goal.returns
returns c = decimals_read
