-- What a closed tableau shows of its book.
-- NamedTrue: the entries that steps name are true in a model. Soundness: no model makes all of them
-- true. NamedLive: they are live. NoModel: so the book has no model.
-- Assumes nothing.
use Rattle.std.specs.Prelude.{◌≡◌, ℕ, true, List}
use Rattle.logic.specs.declared.records.Entry.{Entry}
use Rattle.logic.specs.declared.tableau.Step.{Step}
use Rattle.logic.specs.Books.{Book, stored_at}
use Rattle.logic.specs.Lawful.{WellFormed}
use Rattle.logic.specs.Models.{Model}
use Rattle.logic.specs.Satisfaction.{Live, HoldsIn, Satisfies}
use Rattle.logic.specs.Branches.{start}
use Rattle.logic.specs.Tableaux.{Closed, writing, names}

-- each entry that the steps name is true in the model
abbrev pub NamedTrue : Model → Book → List Step → Type 0
NamedTrue m bk ss = (i : ℕ) → names ss i ≡ true → HoldsIn m bk (stored_at bk i).entry

-- If there is a closed tableau over the starting branch of a well-formed book, no model, of any size,
-- makes true all entries that it names.
abbrev pub Soundness : Type 0
Soundness = (bk : Book) → WellFormed bk → (t : Closed bk start) (m : Model) → NamedTrue m bk (writing t) → ⊥

-- the entries that it names are live
abbrev pub NamedLive : Type 0
NamedLive = (bk : Book) (t : Closed bk start) (i : ℕ) → names (writing t) i ≡ true → (e : Entry) × Live bk i e

-- so no model satisfies the live entries of the book
abbrev pub NoModel : Type 0
NoModel = (bk : Book) → WellFormed bk → Closed bk start → (m : Model) → Satisfies m bk → ⊥
