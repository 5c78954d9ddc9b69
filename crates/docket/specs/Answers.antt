-- What the calls of a docket answer.
-- passed_on, PassesOn: the answer of a lower call, passed on. BookAnswers: what a book answers. RefuteCount: what
-- the judge answers, with a number. Answered: the table of answers. event_of: a book's call as the docket's.
-- Assumes nothing.
use Rattle.std.specs.Prelude.{◌≡◌, ℕ, List, length, Result}
use Rattle.std.specs.Result.{result_map_both}
use Rattle.logic.specs.Books.{Book}
use Rattle.logic.specs.Limits.{Lengths}
use Rattle.books.specs.Calls.{BookCall, BookCall.node, BookCall.enter, BookCall.strike, Called}
use Rattle.judge.specs.declared.faults.RefuteFault.{RefuteFault}
use Rattle.judge.specs.declared.used.Used.{Used}
use Rattle.judge.specs.Members.{member_count}
use Rattle.judge.specs.Refutations.{RefuteAnswer}
use Rattle.judge.specs.ShowAnswers.{ShowPromise}
use Rattle.docket.specs.declared.fault.Fault.{Fault}
use Rattle.docket.specs.declared.fault.Fault.TheVariants as fault
use Rattle.docket.specs.declared.standing.Standing.{Standing}
use Rattle.docket.specs.Events.{Event, Event.node, Event.enter, Event.strike, Event.refute, Event.show, Event.standing}

-- the answer of a lower call, whose fault is held by the docket's
abbrev pub passed_on : {A F : Type 0} → (F → Fault) → Result A F → Result A Fault
passed_on hold r = result_map_both (λ x. x) hold r

-- r passes on an answer for which P holds
abbrev pub PassesOn : {A F : Type 0} → (F → Fault) → Result A Fault → (Result A F → Type 0) → Type 0
PassesOn {A} {F} hold r P = (lower : Result A F) × (r ≡ passed_on hold lower) × P lower

-- a book that means bk gives this answer to the call, whatever it means afterwards
abbrev pub BookAnswers : Book → BookCall → Type 0
BookAnswers bk c = (bk' : Book) × Called c bk bk'

-- the call of the docket that passes on a call of its book
abbrev pub event_of : BookCall → Event
event_of (BookCall.node raw r) = Event.node raw (passed_on fault.Node r)
event_of (BookCall.enter raw r) = Event.enter raw (passed_on fault.Enter r)
event_of (BookCall.strike i r) = Event.strike i (passed_on fault.Strike r)

-- what the judge answers for the bytes, with the number of entries in place of their set
abbrev pub RefuteCount : Book → Lengths → List ℕ → Result ℕ RefuteFault → Type 0
RefuteCount bk ls bs r =
    (answer : Result Used RefuteFault)
    × (r ≡ result_map_both member_count (λ f. f) answer) × RefuteAnswer bk ls bs answer

-- What a call answers if the book is bk and the standing is s: node, enter and strike what a book answers;
-- refute the number of entries used, or the judge's fault; show what the judge answers; standing the standing.
abbrev pub Answered : Book → Standing → Event → Type 0
Answered bk s (node raw r) = PassesOn fault.Node r (λ a. BookAnswers bk (BookCall.node raw a))
Answered bk s (enter raw r) = PassesOn fault.Enter r (λ a. BookAnswers bk (BookCall.enter raw a))
Answered bk s (strike i r) = PassesOn fault.Strike r (λ a. BookAnswers bk (BookCall.strike i a))
Answered bk s (refute bs ls r) = PassesOn fault.Refute r (λ a. RefuteCount bk ls bs a)
Answered bk s (show bs o list r) =
    PassesOn fault.Show r (λ a. ShowPromise bk bs o (length list) list a)
Answered bk s (standing r) = r ≡ s
