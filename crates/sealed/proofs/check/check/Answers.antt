use Rattle.std.proofs.Common.{ℕ, ◌<◌, rules}
use Rattle.logic.specs.Bytes.{byte}
use Rattle.sealed.proofs.Checking.{check_answer}
use Rattle.sealed.proofs.check.check.Goals as goal

pub returns : goal.returns
returns c =
    let bytes : (k : ℕ) → byte c.args.bytes.now k < 256 = search rules in
    check_answer _ c.args.bytes.now c.checked.result c.map.result bytes c.checked.ensures c.map.ensures.cases
