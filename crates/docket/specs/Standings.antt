-- The docket's table: the standing after a granted call, by the standing before it.
-- next: the table. Occurs: a cell that can be reached.
-- Assumes nothing.
use Rattle.std.specs.Prelude.{if◌then◌else◌}
use Rattle.docket.specs.declared.standing.Standing.{Standing}
use Rattle.docket.specs.declared.standing.Standing.TheVariants.{Open, Refuted, Shown}
use Rattle.docket.specs.declared.standing.Granted.{Granted}
use Rattle.docket.specs.declared.standing.Granted.TheVariants.{Entered, Struck, Closed, Satisfied}

-- the next standing
abbrev pub next : Standing → Granted → Standing
next Open Entered = Open
next Refuted Entered = Refuted
next Shown Entered = Open
next Open (Struck used) = Open
next Refuted (Struck used) = if used then Open else Refuted
next Shown (Struck used) = Shown
next Open Closed = Refuted
next Refuted Closed = Refuted
next Shown Closed = Shown
next Open Satisfied = Shown
next Refuted Satisfied = Refuted
next Shown Satisfied = Shown

-- live entries that have a model have no closed tableau, so that two cells never occur
abbrev pub Occurs : Granted → Standing → Type 0
Occurs Closed Shown = ⊥
Occurs Satisfied Refuted = ⊥
Occurs event standing = Unit {0}
