-- Interpretations by tables of masks.
-- by_tables: the interpretation that tables have.
-- Assumes nothing.
use Rattle.std.specs.Prelude.{[], slice_index, slice_index_or}
use Rattle.models.specs.declared.fields.Tables.{Tables}
use Rattle.models.specs.Interpretations.{Interpretation}

-- the successors of an element by a role are in the row of the role
abbrev pub by_tables : Tables → Interpretation
by_tables t =
    record {
      size = t.size;
      names = λ a. slice_index t.names a;
      successors = λ r x. slice_index (slice_index_or t.roles r []) x;
      individual = λ a. slice_index t.individuals a;
    }
