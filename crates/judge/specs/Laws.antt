-- What is proved of the promises.
-- ModelsShown: what show answers for the bytes of a model. HasBytes: a tableau has bytes that refute its
-- book. TableauxHaveBytes: each tableau has.
-- Assumes nothing.
use Rattle.std.specs.Prelude.{◌≡◌, ℕ, ◌≤◌, List, length, is_ok, true, ◌↔◌, Result}
use Rattle.logic.specs.Books.{Book}
use Rattle.logic.specs.Models.{Model}
use Rattle.logic.specs.Satisfaction.{Satisfies}
use Rattle.logic.specs.Lawful.{WellFormed}
use Rattle.logic.specs.Branches.{start}
use Rattle.logic.specs.Tableaux.{Closed, writing}
use Rattle.logic.specs.Limits.{Lengths, FitsLists, WithinLimits}
use Rattle.orders.specs.Masks.{Preference, Strict}
use Rattle.models.specs.Encodings.{model_bytes, MeansBetter}
use Rattle.judge.specs.declared.show_faults.ShowFault.{ShowFault}
use Rattle.judge.specs.ShowAnswers.{ShowPromise}
use Rattle.judge.specs.Steps.{decoded, encoded, Bytes}
use Rattle.judge.specs.Refutations.{Refutation}

-- A model of at most 32 elements is handed over as its bytes, with any strict order that is its "better" and
-- a list that has a place for each node: by the promise of show, it is accepted exactly when it satisfies
-- the live entries.
abbrev pub ModelsShown : Type 0
ModelsShown =
    (bk : Book) (m : Model) → m.size ≤ 32 → (o : Preference) → Strict o → MeansBetter m o →
    (len : ℕ) (list : List ℕ) (r : Result ℕ ShowFault) → length bk.nodes ≤ len →
    ShowPromise bk (model_bytes m) o len list r → (is_ok r ≡ true) ↔ Satisfies m bk

-- the steps of the tableau have bytes, which read back as these steps and refute the book
pub record HasBytes (bk : Book) (ls : Lengths) (t : Closed bk start) : Type 0 where
  pub bytes : Bytes (encoded (writing t))
  pub read_back : decoded (encoded (writing t)) ≡ writing t
  pub refutes : Refutation bk ls (encoded (writing t))

-- every closed tableau that is within the limits and fits the lists has bytes
abbrev pub TableauxHaveBytes : Type 0
TableauxHaveBytes = (bk : Book) → WellFormed bk → (ls : Lengths) (t : Closed bk start) → WithinLimits t → FitsLists ls t → HasBytes bk ls t
