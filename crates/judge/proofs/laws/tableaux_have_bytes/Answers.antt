use Rattle.judge.proofs.Encoding.{tableaux_have_bytes}
use Rattle.judge.proofs.laws.tableaux_have_bytes.Goals as goal

pub returns : goal.returns
returns c = tableaux_have_bytes
