-- The sample book and its model, and the book with one more fact, which has no model.
-- sample, unsatisfiable_sample: the two books. refutation: the steps of a closed tableau over the second.
-- wrong_steps: the steps of a wrong hand-in over the first. SampleModel: the model of the first.
-- Assumes nothing.
use Rattle.std.specs.Prelude.{◌≡◌, ℕ, true, false, ◌&&◌, List, [], ◌∷◌, ◌==◌}
use Rattle.logic.specs.declared.records.Node.TheVariants.{Name, Not, And, Typical}
use Rattle.logic.specs.declared.records.Entry.{Entry}
use Rattle.logic.specs.declared.records.Entry.TheVariants.{Inclusion, Fact}
use Rattle.logic.specs.declared.records.StoredEntry.{StoredEntry}
use Rattle.logic.specs.declared.tableau.Step.{Step}
use Rattle.logic.specs.Books.{Book, with_entry}
use Rattle.logic.specs.Models.{Model}
use Rattle.logic.specs.Rules.{step}

-- a live entry
abbrev live : Entry → StoredEntry
live e = record { entry = e; live = true }

-- Names 0, 1 and 2 are release, yanked and paired. Node 3 is T(release), 4 release and yanked,
-- 5 T(release and yanked), 6 not paired. Typically a release is paired, typically a yanked release
-- is not, and individual 0 is a typical yanked release.
abbrev pub sample : Book
sample =
    record {
      nodes = Name 0 ∷ Name 1 ∷ Name 2 ∷ Typical 0 ∷ And 0 1 ∷ Typical 4 ∷ Not 2 ∷ [];
      entries = live (Inclusion 3 2) ∷ live (Inclusion 5 6) ∷ live (Fact 0 5) ∷ [];
    }

-- the same, where individual 0 is a typical release too
abbrev pub unsatisfiable_sample : Book
unsatisfiable_sample = with_entry sample (Fact 0 3)

-- the steps that refute it
abbrev pub refutation : List Step
refutation =
    step 1 2 0 ∷ step 1 3 0 ∷ step 2 0 0 ∷ step 12 1 2 ∷ step 2 1 0 ∷ step 12 0 3 ∷ step 3 3 0 ∷ step 12 2 4 ∷ []

-- steps over the sample book, the last of which no rule permits
abbrev pub wrong_steps : List Step
wrong_steps =
    step 1 2 0 ∷ step 8 0 0 ∷ step 4 1 0 ∷ step 2 0 0 ∷ step 9 5 0 ∷ step 12 3 6 ∷ step 12 2 6 ∷ []

-- Two elements, of which 1 is better than 0. Both are releases, 0 is yanked, 1 is paired. No role
-- leads anywhere, and every individual is element 0.
pub record SampleModel (m : Model) : Type 0 where
  pub size : m.size ≡ 2
  pub release : (m.atoms 0 0 ≡ true) × (m.atoms 0 1 ≡ true)
  pub yanked : (m.atoms 1 0 ≡ true) × (m.atoms 1 1 ≡ false)
  pub paired : (m.atoms 2 0 ≡ false) × (m.atoms 2 1 ≡ true)
  pub roles : (r x y : ℕ) → m.roles r x y ≡ false
  pub individuals : (a : ℕ) → m.individual a ≡ 0
  pub better : (y x : ℕ) → m.better y x ≡ (y == 1 && x == 0)
