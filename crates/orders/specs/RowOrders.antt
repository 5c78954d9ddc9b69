-- The order that rows hold, and the evidence that it is strict.
-- order_of_rows: what rows mean. order_strict: it is strict.
-- Assumes nothing.
use Rattle.std.proofs.Math.Bool.{Bool-set}
use Rattle.std.proofs.Math.Logic.{∥∥₁_elim}
use Rattle.std.proofs.Math.Bridge.{le_prop}
use Rattle.std.proofs.Math.Nat.{ℕ_set}
use Rattle.orders.specs.declared.rows.Rows.{Rows}
use Rattle.orders.specs.Masks.{Preference, Strict, by_rows}

-- what rows mean
abbrev pub order_of_rows : Rows → Preference
order_of_rows r = by_rows r.size r.masks

-- The laws have at most one proof, so rows that are known to satisfy them have the evidence.
pub order_strict : (r : Rows) → Strict (order_of_rows r)
order_strict r =
    ∥∥₁_elim r.strict
    (λ s t i. record {
      some = le_prop s.some t.some i;
      few = le_prop s.few t.few i;
      within = λ x y e. le_prop (s.within x y e) (t.within x y e) i;
      past = λ x l. ℕ_set _ _ (s.past x l) (t.past x l) i;
      irreflexive = λ x. Bool-set _ _ (s.irreflexive x) (t.irreflexive x) i;
      transitive = λ x y z e d. Bool-set _ _ (s.transitive x y z e d) (t.transitive x y z e d) i;
    })
    (λ s. s)
