use Rattle.std.proofs.Common.{ℕ, ◌<◌}
use Rattle.models.specs.Tables.{by_tables}
use Rattle.models.specs.Fields.{role, Good}
use Rattle.models.proofs.fields.Tables.first_bad.Given as goal

abbrev pub invariant-loop-r : goal.invariant-loop-r
invariant-loop-r l = (q : ℕ) → q < l.r → (x : ℕ) → Good (by_tables l.self) (role q x)
