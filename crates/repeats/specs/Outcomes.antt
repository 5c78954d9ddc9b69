-- The outcomes of repeated judging.
-- InMemory: the book is kept in memory. no_memory, outcome_of: the outcomes. RefutedBy, SatisfiedBy: the judge's answer
-- over a book. TableauOutcome, ModelOutcome: the outcome for a hand-in.
-- Assumes nothing.
use Rattle.std.specs.Prelude.{◌≡◌, ◌⊎◌, ℕ, List, Ok, Err, Result}
use Rattle.logic.specs.Books.{Book}
use Rattle.orders.specs.Masks.{Preference}
use Rattle.judge.specs.declared.used.Used.{Used}
use Rattle.judge.specs.Members.{member_count}
use Rattle.judge.specs.Refutations.{RefuteAnswer}
use Rattle.judge.specs.ShowAnswers.{ShowPromise}
use Rattle.verdict.specs.declared.mark_fault.MarkFault.{MarkFault}
use Rattle.verdict.specs.declared.mark_fault.MarkFault.TheVariants.{Check, Pairs, Refute, Show}
use Rattle.verdict.specs.MarkFaults.{mark_fault_number, mark_fault_place}
use Rattle.verdict.specs.Marks.{marker_lists, marker_sets, TableauAnswer, ModelAnswer}
use Rattle.repeats.specs.declared.repeat.Outcome.{Outcome}

-- the book is kept in memory: 1 is a slot table, 2 a journal
abbrev pub InMemory : ℕ → Type 0
InMemory kept = (kept ≡ 1) ⊎ (kept ≡ 2)

-- the outcome if there is no memory for the book
abbrev pub no_memory : Outcome
no_memory = record { kind = 0; number = 0; place = 0 }

-- accepted, with a number of entries or elements; or refused, with the number and the place of the fault
abbrev pub outcome_of : Result ℕ MarkFault → Outcome
outcome_of (Ok n) = record { kind = 1; number = n; place = 0 }
outcome_of (Err f) = record { kind = 2; number = mark_fault_number f; place = mark_fault_place f }

-- the number of entries that the tableau uses, or the judge's fault
abbrev pub RefutedBy : Book → List ℕ → Result ℕ MarkFault → Type 0
RefutedBy bk ss (Ok n) = (u : Used) × RefuteAnswer bk marker_lists ss (Ok u) × (n ≡ member_count u)
RefutedBy bk ss (Err (Check f)) = ⊥
RefutedBy bk ss (Err (Pairs f)) = ⊥
RefutedBy bk ss (Err (Refute f)) = RefuteAnswer bk marker_lists ss (Err f)
RefutedBy bk ss (Err (Show f)) = ⊥

-- the number of elements of the model, or the judge's fault
abbrev pub SatisfiedBy : Book → List ℕ → Preference → Result ℕ MarkFault → Type 0
SatisfiedBy bk ms o (Ok n) = (list : List ℕ) × ShowPromise bk ms o marker_sets list (Ok n)
SatisfiedBy bk ms o (Err (Check f)) = ⊥
SatisfiedBy bk ms o (Err (Pairs f)) = ⊥
SatisfiedBy bk ms o (Err (Refute f)) = ⊥
SatisfiedBy bk ms o (Err (Show f)) = (list : List ℕ) × ShowPromise bk ms o marker_sets list (Err f)

-- the marker's answer to a tableau, however the book is kept; or no_memory, if the book is kept in memory
abbrev pub TableauOutcome : ℕ → List ℕ → List ℕ → Outcome → Type 0
TableauOutcome kept bs ss o =
    ((o ≡ no_memory) × InMemory kept) ⊎ ((r : Result ℕ MarkFault) × TableauAnswer bs ss r × (o ≡ outcome_of r))

-- the marker's answer to a model, likewise
abbrev pub ModelOutcome : ℕ → List ℕ → List ℕ → List ℕ → Outcome → Type 0
ModelOutcome kept bs ms ps o =
    ((o ≡ no_memory) × InMemory kept) ⊎ ((r : Result ℕ MarkFault) × ModelAnswer bs ms ps r × (o ≡ outcome_of r))
