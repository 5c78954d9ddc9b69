use Rattle.std.proofs.Common.{min, slice_index, ◌∙◌}
use Rattle.orders.specs.Masks.{mask_of, meeting}
use Rattle.models.specs.Views.{view_meaning, view_valid}
use Rattle.models.specs.Fields.{size}
use Rattle.models.proofs.Gathering.{leading_means}
use Rattle.models.proofs.sets.some_successor_in.Goals as goal

pub returns : goal.returns
returns c =
    let v = c.args.view.now in
    leading_means (view_meaning v) (view_valid v size).1 c.args.role c.args.set c.mask_of.result
    (c.mask_of.ensures ∙ (λ t. mask_of (λ x. meeting (slice_index (c.row-row.ensures t) x) c.args.set) (min (c.size.ensures t) 32)))
