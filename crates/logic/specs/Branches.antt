-- The branches of a tableau.
-- form_number: the numbers of the four forms. Branch: constraints, edges and labels. start: the
-- individuals alone. with, with_new: a branch with additions. Says, Leads: what a branch contains.
-- Assumes nothing.
use Rattle.std.specs.Prelude.{ℕ, ◌+◌, List, [], ◌++◌}
use Rattle.logic.specs.Bounds.{role_limit, individual_limit}
use Rattle.logic.specs.declared.tableau.Form.{Form}
use Rattle.logic.specs.declared.tableau.Form.TheVariants.{Holds, Fails, Bars, Admits}
use Rattle.logic.specs.declared.tableau.Constraint.{Constraint}
use Rattle.logic.specs.declared.tableau.Edge.{Edge}
use Rattle.logic.specs.Places.{At}

-- the number of each form
abbrev pub form_number : Form → ℕ
form_number Holds = 0
form_number Fails = 1
form_number Bars = 2
form_number Admits = 3

-- Constraints and edges are numbered from 0. The labels are the numbers below next.
pub record Branch : Type 0 where
  pub constraints : List Constraint
  pub edges : List Edge
  pub next : ℕ

-- the individuals as labels, and nothing else
abbrev pub start : Branch
start = record { constraints = []; edges = []; next = individual_limit }

-- form f of node n at label x
abbrev pub constraint : ℕ → Form → ℕ → Constraint
constraint x f n = record { label = x; form = f; node = n }

-- the role of an edge whose second label is better than its first; no role of a book has this number
abbrev pub better_role : ℕ
better_role = role_limit

-- role r leads from x to y; at better_role, y is better than x
abbrev pub edge : ℕ → ℕ → ℕ → Edge
edge x r y = record { from = x; role = r; to = y }

-- the branch with these constraints and edges appended
abbrev pub with : Branch → List Constraint → List Edge → Branch
with br cs es = record { constraints = br.constraints ++ cs; edges = br.edges ++ es; next = br.next }

-- the same, with one more label: the number that was next
abbrev pub with_new : Branch → List Constraint → List Edge → Branch
with_new br cs es = record { constraints = br.constraints ++ cs; edges = br.edges ++ es; next = br.next + 1 }

-- constraint a of the branch says form f of node n at label x
abbrev pub Says : Branch → ℕ → ℕ → Form → ℕ → Type 0
Says br a x f n = At br.constraints a (constraint x f n)

-- edge b of the branch leads from x to y by role r
abbrev pub Leads : Branch → ℕ → ℕ → ℕ → ℕ → Type 0
Leads br b x r y = At br.edges b (edge x r y)
