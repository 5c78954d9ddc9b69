-- When a model is a model of a book.
-- Live: an entry exists and is live. HoldsIn: an entry is true. Satisfies: every live entry is true.
-- Assumes nothing.
use Rattle.std.specs.Prelude.{◌≡◌, ℕ, ◌<◌, true}
use Rattle.logic.specs.declared.records.Entry.{Entry}
use Rattle.logic.specs.declared.records.Entry.TheVariants.{Inclusion, Fact, RoleFact, Absent}
use Rattle.logic.specs.Books.{Book, stored_at, concept}
use Rattle.logic.specs.Models.{Model, Sat}

-- entry i exists and is live
abbrev pub Live : Book → ℕ → Entry → Type 0
Live bk i e = stored_at bk i ≡ record { entry = e; live = true }

-- the entry is true in the model
abbrev pub HoldsIn : Model → Book → Entry → Type 0
HoldsIn m bk (Inclusion c d) = (x : ℕ) → x < m.size → Sat m (concept bk c) x → Sat m (concept bk d) x
HoldsIn m bk (Fact a c) = Sat m (concept bk c) (m.individual a)
HoldsIn m bk (RoleFact r a b) = m.roles r (m.individual a) (m.individual b) ≡ true
HoldsIn m bk Absent = Unit {0}

-- it is a model of the live entries of the book
abbrev pub Satisfies : Model → Book → Type 0
Satisfies m bk = (i : ℕ) (e : Entry) → Live bk i e → HoldsIn m bk e
