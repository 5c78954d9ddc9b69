use Rattle.std.proofs.Common.{◌≡◌}
use Rattle.orders.specs.Masks.{mask_of}
use Rattle.orders.proofs.masks.mask_of.Given as goal

abbrev pub invariant-loop-x : goal.invariant-loop-x
invariant-loop-x g l = l.mask ≡ mask_of (g.P.Property.holds l.property) l.x
