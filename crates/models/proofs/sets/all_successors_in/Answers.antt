use Rattle.models.specs.Views.{view_meaning, view_valid}
use Rattle.models.proofs.Gathering.{only_means}
use Rattle.models.proofs.sets.all_successors_in.Goals as goal

pub returns : goal.returns
returns c =
    let v = c.args.view.now in
    only_means (view_meaning v) (view_valid v) c.args.role c.args.set _ _ _ c.complement.ensures c.some_successor_in.ensures c.complement-2.ensures
