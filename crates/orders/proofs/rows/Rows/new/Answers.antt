use Rattle.std.proofs.Common.{replicate, refl, ◌∙◌}
use Rattle.orders.specs.Masks.{alone}
use Rattle.orders.proofs.Tables.{table_means, no_rows}
use Rattle.orders.proofs.Strictness.{alone_strict, table_strict}
use Rattle.orders.proofs.rows.Rows.new.Goals as goal

pub of-requires : goal.of-requires
of-requires c = table_strict alone (replicate 32 0) (no_rows 32) alone_strict

pub returns : goal.returns
returns c = c.of.ensures ∙ table_means alone 1 (replicate 32 0) refl (no_rows 32)
