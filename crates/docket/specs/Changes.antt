-- What a call changes, and what each change makes of a docket.
-- Change: the changes. change: what a call changed. State: the state of a docket. granted_event: a change as an event
-- of the table of standings. book_after, standing_after, used_after: the parts of the state afterwards. after: all.
-- Assumes nothing.
use Rattle.std.specs.Prelude.{ℕ, Bool, List, Option, Some, None, Ok, Err, Result}
use Rattle.logic.specs.declared.records.Node.{Node}
use Rattle.logic.specs.declared.records.Entry.{Entry}
use Rattle.logic.specs.declared.tableau.Step.{Step}
use Rattle.logic.specs.Written.{node_of, entry_of}
use Rattle.logic.specs.Books.{Book, with_node, with_entry, with_strike}
use Rattle.logic.specs.Tableaux.{names}
use Rattle.judge.specs.Steps.{decoded}
use Rattle.docket.specs.declared.fault.Fault.{Fault}
use Rattle.docket.specs.declared.standing.Standing.{Standing}
use Rattle.docket.specs.declared.standing.Granted.{Granted}
use Rattle.docket.specs.declared.standing.Granted.TheVariants.{Entered, Struck, Closed, Satisfied}
use Rattle.docket.specs.Standings.{next}
use Rattle.docket.specs.Events.{Event, Event.node, Event.enter, Event.strike, Event.refute, Event.show, Event.standing}

-- nothing; a node was added; an entry was added, with this number; the entry of this number was struck; a tableau
-- with these steps was accepted; a model was accepted
pub data Change : Type 0 where
  nothing : Change
  node_came : Node → Change
  entry_taken : ℕ → Entry → Change
  entry_struck : ℕ → Change
  tableau_accepted : List Step → Change
  model_accepted : Change

-- nothing, if the call was refused
abbrev pub if_granted : {A : Type 0} → Result A Fault → (A → Change) → Change
if_granted (Ok x) f = f x
if_granted (Err e) f = nothing

-- what the call changed
abbrev pub change : Event → Change
change (node raw r) = if_granted r (λ i. node_came (node_of raw))
change (enter raw r) = if_granted r (λ i. entry_taken i (entry_of raw))
change (strike i r) = if_granted r (λ u. entry_struck i)
change (refute bs ls r) = if_granted r (λ n. tableau_accepted (decoded bs))
change (show bs o list r) = if_granted r (λ n. model_accepted)
change (standing r) = nothing

-- the book, the standing, and the entries that the last accepted tableau used
pub record State : Type 0 where
  pub book : Book
  pub standing : Standing
  pub used : ℕ → Bool

-- a node and an entry are appended, and a struck entry is no longer live
abbrev pub book_after : Change → Book → Book
book_after (node_came n) bk = with_node bk n
book_after (entry_taken i e) bk = with_entry bk e
book_after (entry_struck i) bk = with_strike bk i
book_after c bk = bk

-- the change as an event of the table, if it is one; `used`: the entries that the last accepted tableau used
abbrev pub granted_event : (ℕ → Bool) → Change → Option Granted
granted_event used (entry_taken i e) = Some Entered
granted_event used (entry_struck i) = Some (Struck (used i))
granted_event used (tableau_accepted ss) = Some Closed
granted_event used model_accepted = Some Satisfied
granted_event used c = None

-- the standing stays if the change is no event of the table
abbrev pub standing_after : Option Granted → Standing → Standing
standing_after (Some event) s = next s event
standing_after None s = s

-- an accepted tableau becomes the last one
abbrev pub used_after : Change → (ℕ → Bool) → ℕ → Bool
used_after (tableau_accepted ss) used = names ss
used_after c used = used

-- the state afterwards
abbrev pub after : Change → State → State
after c s = record {
  book = book_after c s.book;
  standing = standing_after (granted_event s.used c) s.standing;
  used = used_after c s.used;
}
