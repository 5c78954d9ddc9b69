-- Models that no book distinguishes.
-- Alike: two models agree on what a book can mention. AlikeSatisfy: they satisfy the same books.
-- Assumes nothing.
use Rattle.std.specs.Prelude.{◌≡◌, ℕ, ◌<◌}
use Rattle.logic.specs.Bounds.{name_limit, role_limit, individual_limit}
use Rattle.logic.specs.Books.{Book}
use Rattle.logic.specs.Lawful.{WellFormed}
use Rattle.logic.specs.Models.{Model}
use Rattle.logic.specs.Satisfaction.{Satisfies}

-- they have the same elements, and agree on them for the names, roles and individuals that a book can have
pub record Alike (m k : Model) : Type 0 where
  pub size : m.size ≡ k.size
  pub atoms : (a x : ℕ) → a < name_limit → x < m.size → m.atoms a x ≡ k.atoms a x
  pub roles : (r x y : ℕ) → r < role_limit → x < m.size → y < m.size → m.roles r x y ≡ k.roles r x y
  pub individual : (a : ℕ) → a < individual_limit → m.individual a ≡ k.individual a
  pub better : (y x : ℕ) → y < m.size → x < m.size → m.better y x ≡ k.better y x

-- alike models satisfy the same books
abbrev pub AlikeSatisfy : Type 0
AlikeSatisfy = (m k : Model) → Alike m k → (bk : Book) → WellFormed bk → Satisfies m bk → Satisfies k bk
