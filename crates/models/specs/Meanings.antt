-- The model that an interpretation and an order mean.
-- Compatible: the order has the interpretation's elements. model_of: the model.
-- Assumes nothing.
use Rattle.std.specs.Prelude.{◌≡◌}
use Rattle.logic.specs.Models.{Model}
use Rattle.orders.specs.Masks.{has, Preference, Strict}
use Rattle.models.specs.Interpretations.{Interpretation}
use Rattle.models.specs.Fields.{size, individual, Valid}

-- the interpretation is valid, the order is strict, and they have the same elements
pub record Compatible (i : Interpretation) (o : Preference) : Type 0 where
  pub valid : Valid i
  pub strict : Strict o
  pub sized : o.size ≡ i.size

-- the model whose names, roles and individuals are those of the interpretation, and in which y is better
-- than x if the order has y in the set of x
abbrev pub model_of : (i : Interpretation) (o : Preference) → Compatible i o → Model
model_of i o f =
    record {
      size = i.size;
      inhabited = (f.valid size).0;
      atoms = λ a x. has (i.names a) x;
      roles = λ r x y. has (i.successors r x) y;
      individual = i.individual;
      individual_within = λ a h. f.valid (individual a);
      better = λ y x. has (o.better x) y;
      irreflexive = λ x h. f.strict.irreflexive x;
      transitive = λ x y z _ _ _ t u. f.strict.transitive x y z u t;
    }
