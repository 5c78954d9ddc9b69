-- The working lists of a tableau.
-- no_constraint, no_edge, no_split: the blanks, zero in each field. lengths: how long the lists are.
-- AllBlank, NoneInUse: the lists are blank. SameLists: they are still the lists that were lent.
-- Assumes nothing.
use Rattle.std.specs.Prelude.{◌≡◌, List, length, replicate}
use Rattle.std.specs.Borrow.{MutBor}
use Rattle.logic.specs.declared.tableau.Form.TheVariants.{Holds}
use Rattle.logic.specs.declared.tableau.Constraint.{Constraint}
use Rattle.logic.specs.declared.tableau.Edge.{Edge}
use Rattle.logic.specs.Branches.{constraint, edge}
use Rattle.logic.specs.Limits.{Lengths}
use Rattle.judge.specs.declared.working.Split.{Split}
use Rattle.judge.specs.declared.working.Lists.{Lists}

-- form 0 is Holds
abbrev pub no_constraint : Constraint
no_constraint = constraint 0 Holds 0

abbrev pub no_edge : Edge
no_edge = edge 0 0 0

abbrev pub no_split : Split
no_split = record { constraints = 0; edges = 0; labels = 0; second = no_constraint }

-- how long the lists are
abbrev pub lengths : List Constraint → List Edge → List Split → Lengths
lengths cs es ss = record { constraints = length cs; edges = length es; splits = length ss }

-- lists of these lengths in which every record is blank
pub record AllBlank (ls : Lengths) (cs : List Constraint) (es : List Edge) (ss : List Split) : Type 0 where
  pub constraints : cs ≡ replicate ls.constraints no_constraint
  pub edges : es ≡ replicate ls.edges no_edge
  pub splits : ss ≡ replicate ls.splits no_split

-- how long the lent lists are
abbrev pub lengths_of : Lists → Lengths
lengths_of l = lengths l.constraints.now l.edges.now l.splits.now

-- every record of the lent lists is blank
abbrev pub NoneInUse : Lists → Type 0
NoneInUse l = AllBlank (lengths_of l) l.constraints.now l.edges.now l.splits.now

-- a lent list is still the same one, with the same length
pub record SameList {A : Type 0} (before after : MutBor (List A)) : Type 0 where
  pub reference : after.ghost_name ≡ before.ghost_name
  pub long : length after.now ≡ length before.now

-- all three are
pub record SameLists (before after : Lists) : Type 0 where
  pub constraints : SameList before.constraints after.constraints
  pub edges : SameList before.edges after.edges
  pub splits : SameList before.splits after.splits
