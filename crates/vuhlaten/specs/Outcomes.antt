-- A verdict as numbers.
-- kind_of, number_of, place_of, count_of: the four numbers of each verdict. outcome_of: all four.
-- Assumes nothing.
use Rattle.std.specs.Prelude.{ℕ}
use Rattle.verdict.specs.declared.Verdict.{Verdict}
use Rattle.verdict.specs.declared.Verdict.TheVariants.{Closed, Satisfied, Refused}
use Rattle.vuhlaten.specs.declared.outcome.Outcome.{Outcome}

-- the kind of the verdict
abbrev pub kind_of : Verdict → ℕ
kind_of (Closed entries) = 1
kind_of (Satisfied elements) = 2
kind_of (Refused number place) = 3

-- the number of the refusal
abbrev pub number_of : Verdict → ℕ
number_of (Closed entries) = 0
number_of (Satisfied elements) = 0
number_of (Refused number place) = number

-- the place of the refusal
abbrev pub place_of : Verdict → ℕ
place_of (Closed entries) = 0
place_of (Satisfied elements) = 0
place_of (Refused number place) = place

-- how many entries a closed tableau used, or how many elements a model has
abbrev pub count_of : Verdict → ℕ
count_of (Closed entries) = entries
count_of (Satisfied elements) = elements
count_of (Refused number place) = 0

abbrev pub outcome_of : Verdict → Outcome
outcome_of v = record { kind = kind_of v; number = number_of v; place = place_of v; count = count_of v }
