use Rattle.std.proofs.Common.{refl, subst}
use Rattle.std.proofs.lemmas.Bool.{false≢true}
use Rattle.models.specs.Fields.{LowestBad, Valid}
use Rattle.models.proofs.view.View.read.Goals as goal

pub returns-in-Some-clause-exact : goal.returns-in-Some-clause-exact
returns-in-Some-clause-exact c =
    let low = subst (λ i. LowestBad i c.in-Some.at) c.from_bytes-tables.ensures c.in-Some.ensures in
    (λ t. absurd (false≢true t), λ h. absurd (low.bad (h.1 low.field)))

pub returns-in-None-clause-exact : goal.returns-in-None-clause-exact
returns-in-None-clause-exact c =
    (λ _. (c.if-bytes-ne-LENGTH.false, subst Valid c.from_bytes-tables.ensures c.in-None.ensures), λ _. refl)
