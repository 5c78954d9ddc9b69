-- What it is to refute a book, and what refuting answers.
-- Refutation: the bytes write a closed tableau. RefuteAnswer: what is promised of each answer.
-- Assumes nothing.
use Rattle.std.specs.Prelude.{◌≡◌, ℕ, List, Ok, Err, Result}
use Rattle.logic.specs.Books.{Book}
use Rattle.logic.specs.Models.{Model}
use Rattle.logic.specs.Satisfaction.{Satisfies}
use Rattle.logic.specs.Branches.{start}
use Rattle.logic.specs.Tableaux.{Closed, writing, names, named_count}
use Rattle.logic.specs.Limits.{Lengths, FitsLists, WithinLimits}
use Rattle.logic.specs.Soundness.{NamedTrue}
use Rattle.judge.specs.declared.faults.RefuteFault.{RefuteFault}
use Rattle.judge.specs.declared.used.Used.{Used}
use Rattle.judge.specs.Steps.{decoded, WholeSteps}
use Rattle.judge.specs.Members.{member, member_count}
use Rattle.judge.specs.Reasons.{RefuteReason}

-- the bytes are the writing of a closed tableau over the starting branch that is within the limits and
-- fits the lists
pub record Refutation (bk : Book) (ls : Lengths) (bs : List ℕ) : Type 0 where
  pub tableau : Closed bk start
  pub whole : WholeSteps bs
  pub written : writing tableau ≡ decoded bs
  pub limits : WithinLimits tableau
  pub fits : FitsLists ls tableau

-- what an accepted tableau shows
pub record AcceptedTableau (bk : Book) (ls : Lengths) (bs : List ℕ) (u : Used) : Type 0 where
  pub refutation : Refutation bk ls bs
  -- the set has exactly the entries that the steps name, and its count is their number
  pub named : (i : ℕ) → member u i ≡ names (decoded bs) i
  pub count : member_count u ≡ named_count (decoded bs)
  -- no finite preferential model makes these entries all true, so none satisfies the book
  pub sound : (m : Model) → NamedTrue m bk (decoded bs) → ⊥
  pub no_model : (m : Model) → Satisfies m bk → ⊥

-- Accepted exactly when the bytes refute the book, and each fault exactly for its reason.
pub record RefuteAnswer (bk : Book) (ls : Lengths) (bs : List ℕ) (r : Result Used RefuteFault) : Type 0 where
  pub accepts : Refutation bk ls bs → (u : Used) × (r ≡ Ok u)
  pub accepted : (u : Used) → r ≡ Ok u → AcceptedTableau bk ls bs u
  pub refuses : (f : RefuteFault) → RefuteReason bk ls bs f → r ≡ Err f
  pub refused : (f : RefuteFault) → r ≡ Err f → RefuteReason bk ls bs f
