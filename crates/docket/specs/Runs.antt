-- How calls take a docket from one state to the next. A list of events has the newest first.
-- Moves: one call. MovesAll: a list of calls. New: a new docket. Run: a list of calls from a new docket.
-- Contents: what a docket is in contracts. state_of: the state that it is. Reached: some run leads to it.
-- Assumes nothing.
use Rattle.std.specs.Prelude.{◌≡◌, ℕ, false, List, [], ◌∷◌}
use Rattle.logic.specs.Books.{Book, empty}
use Rattle.judge.specs.declared.used.Used.{Used}
use Rattle.judge.specs.Members.{member}
use Rattle.docket.specs.declared.standing.Standing.{Standing}
use Rattle.docket.specs.declared.standing.Standing.TheVariants.{Open}
use Rattle.docket.specs.Events.{Event}
use Rattle.docket.specs.Changes.{State, change, after}
use Rattle.docket.specs.Answers.{Answered}

-- one call: its answer is that of the table, and its change leads from the state before to the state after
pub record Moves (e : Event) (s t : State) : Type 0 where
  pub answer : Answered s.book s.standing e
  pub state : t ≡ after (change e) s

-- a list of calls, one after the other
pub data MovesAll : List Event → State → State → Type 0 where
  none : {s : State} → MovesAll [] s s
  more : {es : List Event} {e : Event} {s t u : State} →
      MovesAll es s t → Moves e t u → MovesAll (e ∷ es) s u

-- an empty book, open, no entry used
pub record New (s : State) : Type 0 where
  pub book : s.book ≡ empty
  pub standing : s.standing ≡ Open
  pub used : (i : ℕ) → s.used i ≡ false

-- a list of calls from a new docket to the state s
pub record Run (h : List Event) (s : State) : Type 0 where
  pub first : State
  pub new : New first
  pub moved : MovesAll h first s

-- the meaning of the book, the standing, and the set of used entries
pub record Contents : Type 0 where
  pub book : Book
  pub standing : Standing
  pub used : Used

abbrev pub contents : Book → Standing → Used → Contents
contents bk s u = record { book = bk; standing = s; used = u }

-- the contents as a state
abbrev pub state_of : Contents → State
state_of d = record { book = d.book; standing = d.standing; used = member d.used }

-- some list of calls leads there from a new docket
abbrev pub Reached : Contents → Type 0
Reached d = (h : List Event) × Run h (state_of d)
