-- What a history of calls tells by itself. A history has the newest call first.
-- granted_nodes, granted_entries: the records of the granted calls. Stands: an entry was added and not
-- struck since. last_steps: the last accepted tableau. Tabled, Stood: the standing, by the table.
-- Lifts, Takes: calls that change it.
-- Assumes nothing.
use Rattle.std.specs.Prelude.{◌≡◌, ◌≢◌, ℕ, true, ◌⊎◌, List, [], ◌∷◌, ◌++◌, IfSome}
use Rattle.logic.specs.declared.records.Node.{Node}
use Rattle.logic.specs.declared.records.Entry.{Entry}
use Rattle.logic.specs.declared.tableau.Step.{Step}
use Rattle.logic.specs.Tableaux.{names}
use Rattle.docket.specs.declared.standing.Standing.{Standing}
use Rattle.docket.specs.declared.standing.Standing.TheVariants.{Open}
use Rattle.docket.specs.Standings.{Occurs}
use Rattle.docket.specs.Events.{Event}
use Rattle.docket.specs.Changes.{Change, node_came, entry_taken, entry_struck, tableau_accepted, change, granted_event, standing_after}

-- the list after a change: with the node that was added
abbrev pub nodes_after : Change → List Node → List Node
nodes_after (node_came n) ns = ns ++ n ∷ []
nodes_after c ns = ns

-- the list after a change: with the entry that was added
abbrev pub entries_after : Change → List Entry → List Entry
entries_after (entry_taken i e) es = es ++ e ∷ []
entries_after c es = es

-- whether entry i is live after a change; P: it was live before
abbrev pub StandsAfter : ℕ → Change → Type 0 → Type 0
StandsAfter i (entry_taken j e) P = (i ≡ j) ⊎ P
StandsAfter i (entry_struck j) P = (i ≢ j) × P
StandsAfter i c P = P

-- the steps of the tableau that was accepted, or else those before
abbrev pub steps_after : Change → List Step → List Step
steps_after (tableau_accepted ss) last = ss
steps_after c last = last

-- the nodes of the granted node calls, in order
abbrev pub granted_nodes : List Event → List Node
granted_nodes [] = []
granted_nodes (e ∷ h) = nodes_after (change e) (granted_nodes h)

-- the entries of the granted enter calls, in order
abbrev pub granted_entries : List Event → List Entry
granted_entries [] = []
granted_entries (e ∷ h) = entries_after (change e) (granted_entries h)

-- enter added an entry with number i, and no strike has removed it since
abbrev pub Stands : ℕ → List Event → Type 0
Stands i [] = ⊥
Stands i (e ∷ h) = StandsAfter i (change e) (Stands i h)

-- the steps of the last accepted tableau; none if none was accepted
abbrev pub last_steps : List Event → List Step
last_steps [] = []
last_steps (e ∷ h) = steps_after (change e) (last_steps h)

-- After the history h the call moves the standing from s to t by the table, at a cell that occurs.
pub record Tabled (h : List Event) (e : Event) (s t : Standing) : Type 0 where
  pub next : t ≡ standing_after (granted_event (names (last_steps h)) (change e)) s
  pub occurs : IfSome (granted_event (names (last_steps h)) (change e)) (λ event. Occurs event s)

-- the standing that the table gives along the history
pub data Stood : List Event → Standing → Type 0 where
  opened : Stood [] Open
  followed : {h : List Event} {e : Event} {s t : Standing} →
      Stood h s → Tabled h e s t → Stood (e ∷ h) t

-- the call is a strike that removes an entry that the last accepted tableau used
abbrev pub Lifts : List Event → Event → Type 0
Lifts h e = (i : ℕ) × (change e ≡ entry_struck i) × (names (last_steps h) i ≡ true)

-- the call is a granted enter
abbrev pub Takes : Event → Type 0
Takes e = (i : ℕ) × (x : Entry) × (change e ≡ entry_taken i x)
