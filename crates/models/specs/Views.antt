-- What a view holds, and the evidence that it is valid.
-- by_tables: the interpretation of tables. view_meaning: that of a view. view_valid: it is valid.
-- Assumes nothing.
use Rattle.std.proofs.Math.Logic.{∥∥₁_elim}
use Rattle.std.specs.Prelude.{◌≡◌}
use Rattle.std.proofs.Math.Bridge.{le_prop}
use Rattle.std.proofs.Math.Nat.{ℕ_set}
use Rattle.models.specs.declared.view.View.{View}
use Rattle.models.specs.Interpretations.{Interpretation}
use Rattle.models.specs.Tables.{by_tables}
use Rattle.models.specs.Fields.{Field, size, name, role, individual, Good, Valid}

-- what a view holds
abbrev pub view_meaning : View → Interpretation
view_meaning v = by_tables v.tables

good_once : (i : Interpretation) (f : Field) (a b : Good i f) → a ≡ b
good_once i size a b = λ t. (le_prop a.0 b.0 t, le_prop a.1 b.1 t)
good_once i (name n) a b = λ t y h. le_prop (a y h) (b y h) t
good_once i (role r x) a b = λ t. (λ y h. le_prop (a.0 y h) (b.0 y h) t, λ l. ℕ_set _ _ (a.1 l) (b.1 l) t)
good_once i (individual n) a b = λ t. le_prop a b t

-- Validity has at most one proof, so a view that is known to be valid has the evidence.
pub view_valid : (v : View) → Valid (view_meaning v)
view_valid v = ∥∥₁_elim v.valid (λ a b t f. good_once (view_meaning v) f (a f) (b f) t) (λ a. a)
