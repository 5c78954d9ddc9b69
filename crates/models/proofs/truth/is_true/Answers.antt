use Rattle.std.proofs.Common.{◌≡◌, Decides, get_or, sym, ◌∙◌, subst}
use Rattle.std.proofs.lemmas.Bool.Decides.{Decides-like}
use Rattle.orders.specs.Masks.{has}
use Rattle.models.specs.Views.{view_meaning}
use Rattle.models.specs.NodeMasks.{TrueByMasks}
use Rattle.models.proofs.ConceptSets.{truth_of_masks}
use Rattle.models.proofs.truth.is_true.Goals as goal

pub returns-in-Fact-clause-truth : goal.returns-in-Fact-clause-truth
returns-in-Fact-clause-truth c =
    let i = view_meaning c.args.view.now in
    let list = c.args.list.now in
    let test = c.contains.result in
    let told : test ≡ has (get_or list c.in-Fact.c 0) (i.individual c.in-Fact.x) = cc in
    let masks = subst (λ e. Decides test (TrueByMasks i list e)) (sym c.in-Fact.is) (λ t. sym told ∙ t, λ t. told ∙ t) in
    λ o f bk s. let same = truth_of_masks i o f bk list s c.args.entry in Decides-like test same.0 same.1 masks
