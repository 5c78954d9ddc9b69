use Rattle.std.proofs.Common.{ap, ◌∙◌}
use Rattle.verdict.proofs.Marking.{first_part}
use Rattle.verdict.proofs.mark.first.Goals as goal

pub returns : goal.returns
returns c = ap (λ x. x.now) c.unwrap_or.ensures ∙ first_part c.args.bytes c.get.result c.get.ensures.lookup
