-- Tables of the sets of an order. Assumes nothing.
use Rattle.std.proofs.Common.{◌≡◌, ℕ, zero, suc, List, replicate, refl}
use mathlib.Core.Path.{fun_ext}
use Rattle.orders.specs.Masks.{Preference, by_rows, Tabulates}

-- a table of the sets of an order is that order
pub table_means : (o : Preference) (n : ℕ) (masks : List ℕ) → n ≡ o.size → Tabulates o.better masks → by_rows n masks ≡ o
table_means o n masks e table = λ i. record { size = e i; better = fun_ext table i }

-- a table of zeros
pub no_rows : (n : ℕ) → Tabulates (λ x. 0) (replicate n 0)
no_rows zero x = refl
no_rows (suc n) zero = refl
no_rows (suc n) (suc x) = no_rows n x
