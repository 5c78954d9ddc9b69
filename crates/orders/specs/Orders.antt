-- What orders mean: one that is filled from bytes, and one of either kind.
-- any_strict: the evidence that the latter is strict.
-- Assumes nothing.
use Rattle.orders.specs.declared.filled.Filled.{Filled}
use Rattle.orders.specs.declared.any.AnyOrder.{AnyOrder}
use Rattle.orders.specs.declared.any.AnyOrder.TheVariants as any
use Rattle.orders.specs.Masks.{Preference, Strict}
use Rattle.orders.specs.RowOrders.{order_of_rows, order_strict}

-- the order of the bytes that it was filled from
abbrev pub meaning : {E : Type 0} → Filled E → Preference
meaning o = order_of_rows o.rows

-- the order that it has
abbrev pub any_meaning : AnyOrder → Preference
any_meaning (any.Pairs o) = meaning o
any_meaning (any.Ranks o) = meaning o

pub any_strict : (o : AnyOrder) → Strict (any_meaning o)
any_strict (any.Pairs o) = order_strict o.rows
any_strict (any.Ranks o) = order_strict o.rows
