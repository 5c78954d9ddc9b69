-- The verdict on a hand-in, from its bytes.
-- marked_part: the bytes of a file that count. marker_lists, marker_sets: the lengths of the working lists.
-- TableauAnswer, ModelAnswer: what is answered, with the first fault. TableauMark, ModelMark: the verdict, and what
-- it means.
-- Assumes nothing.
use Rattle.std.specs.Prelude.{◌≡◌, ℕ, ◌↔◌, List, take, Ok, Err, Result}
use Rattle.logic.specs.Books.{Book}
use Rattle.logic.specs.Models.{Model}
use Rattle.logic.specs.Satisfaction.{Satisfies}
use Rattle.logic.specs.Tableaux.{named_count}
use Rattle.logic.specs.Limits.{Lengths}
use Rattle.sealed.specs.Writing.{Sealed, SealedAs}
use Rattle.sealed.specs.Checks.{CheckAnswer}
use Rattle.orders.specs.PairLaws.{order_of_pairs, PairsLawful}
use Rattle.orders.specs.Answers.{PairsRefused}
use Rattle.models.specs.Interpretations.{interpretation_of}
use Rattle.models.specs.Meanings.{Compatible, model_of}
use Rattle.models.specs.Answers.{HasModelLength}
use Rattle.judge.specs.declared.used.Used.{Used}
use Rattle.judge.specs.Members.{member_count}
use Rattle.judge.specs.Steps.{decoded}
use Rattle.judge.specs.Refutations.{Refutation, RefuteAnswer}
use Rattle.judge.specs.ShowAnswers.{ShowPromise}
use Rattle.verdict.specs.declared.Verdict.{Verdict}
use Rattle.verdict.specs.declared.Verdict.TheVariants.{Closed, Satisfied, Refused}
use Rattle.verdict.specs.declared.mark_fault.MarkFault.{MarkFault}
use Rattle.verdict.specs.declared.mark_fault.MarkFault.TheVariants.{Check, Pairs, Refute, Show}
use Rattle.verdict.specs.MarkFaults.{mark_fault_number, mark_fault_place}

-- the bytes that count: the first 65,535
abbrev pub marked_part : List ℕ → List ℕ
marked_part bs = take 65535 bs

-- the lists have room for 4,096 constraints, edges and pending splits
abbrev pub marker_lists : Lengths
marker_lists = record { constraints = 4096; edges = 4096; splits = 4096 }

-- the list has room for 4,096 sets, one for each node
abbrev pub marker_sets : ℕ
marker_sets = 4096

-- The number of entries that a tableau used, or the first fault: that of check, then that of the judge over the sealed
-- book.
abbrev pub TableauAnswer : List ℕ → List ℕ → Result ℕ MarkFault → Type 0
TableauAnswer bs ss (Ok n) =
    (bk : Book) × SealedAs bs bk
    × ((u : Used) × RefuteAnswer bk marker_lists ss (Ok u) × (n ≡ member_count u))
TableauAnswer bs ss (Err (Check f)) = CheckAnswer bs (Err f)
TableauAnswer bs ss (Err (Pairs f)) = ⊥
TableauAnswer bs ss (Err (Refute f)) = (bk : Book) × SealedAs bs bk × RefuteAnswer bk marker_lists ss (Err f)
TableauAnswer bs ss (Err (Show f)) = ⊥

-- The number of elements of a model, or the first fault: that of check, then that of filling the pairs, then that of the
-- judge over the sealed book and the order that the pairs mean.
abbrev pub ModelAnswer : List ℕ → List ℕ → List ℕ → Result ℕ MarkFault → Type 0
ModelAnswer bs ms ps (Ok n) =
    (bk : Book) × SealedAs bs bk × PairsLawful ps
    × ((list : List ℕ) × ShowPromise bk ms (order_of_pairs ps) marker_sets list (Ok n))
ModelAnswer bs ms ps (Err (Check f)) = CheckAnswer bs (Err f)
ModelAnswer bs ms ps (Err (Pairs f)) = Sealed bs × PairsRefused ps f
ModelAnswer bs ms ps (Err (Refute f)) = ⊥
ModelAnswer bs ms ps (Err (Show f)) =
    (bk : Book) × SealedAs bs bk × PairsLawful ps
    × ((list : List ℕ) × ShowPromise bk ms (order_of_pairs ps) marker_sets list (Err f))

-- the verdict of an answer; a fault gives its number and its place
abbrev pub verdict_of : (ℕ → Verdict) → Result ℕ MarkFault → Verdict
verdict_of granted (Ok n) = granted n
verdict_of granted (Err f) = Refused (mark_fault_number f) (mark_fault_place f)

-- The verdict on a tableau, and what it means. It is closed exactly when the steps are the writing of a closed tableau
-- over the sealed book that is within the limits (8,192 steps, label 255) and fits lists of 4,096 records. Then no finite
-- preferential model, of any size, satisfies the book.
pub record TableauMark (bs ss : List ℕ) (v : Verdict) : Type 0 where
  pub answer : Result ℕ MarkFault
  pub answered : TableauAnswer bs ss answer
  pub verdict : v ≡ verdict_of Closed answer
  pub closed : (n : ℕ) → (v ≡ Closed n)
      ↔ ((bk : Book) × SealedAs bs bk × Refutation bk marker_lists ss × (n ≡ named_count (decoded ss)))
  pub sound : (n : ℕ) → v ≡ Closed n → (bk : Book) → SealedAs bs bk →
      (m : Model) → Satisfies m bk → ⊥

-- The verdict on a model, and what it means. It is satisfied exactly if the bytes and the pairs mean a model that
-- satisfies the sealed book.
pub record ModelMark (bs ms ps : List ℕ) (v : Verdict) : Type 0 where
  pub answer : Result ℕ MarkFault
  pub answered : ModelAnswer bs ms ps answer
  pub verdict : v ≡ verdict_of Satisfied answer
  pub satisfied : (n : ℕ) → (v ≡ Satisfied n)
      ↔ ((bk : Book) × SealedAs bs bk × PairsLawful ps × HasModelLength ms
      × ((f : Compatible (interpretation_of ms) (order_of_pairs ps)) × Satisfies (model_of (interpretation_of ms) (order_of_pairs ps) f) bk) × (n ≡ (interpretation_of ms).size))
