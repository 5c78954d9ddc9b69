use Rattle.std.proofs.Common.{false, get_or, ap, ◌∙◌}
use Rattle.judge.proofs.Replicated.{replicated}
use Rattle.judge.proofs.used.Used.new.Goals as goal

pub returns : goal.returns
returns c = λ i. ap (λ ms. get_or ms i false) c.unmarked.ensures ∙ replicated false 256 i
