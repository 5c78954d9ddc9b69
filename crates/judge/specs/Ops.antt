-- The ops of steps, and what their operands name.
-- op_of, OpOf: an op by its number. names_entry, operand_of: what its operands a and b name.
-- malformed, never_entered, lacks_operand, names_struck: what can be wrong with a step before any rule is tried.
-- Assumes nothing.
use Rattle.std.specs.Prelude.{◌≡◌, ℕ, Bool, true, false, not, ◌&&◌, ◌||◌, length, Some, None, MatchResult, if◌then◌else◌, Option, Result, ◌==◌, nat_le, nat_lt}
use Rattle.logic.specs.declared.tableau.Step.{Step}
use Rattle.logic.specs.Books.{Book, stored_at}
use Rattle.logic.specs.Branches.{Branch}
use Rattle.judge.specs.declared.ops.Op.{Op}
use Rattle.judge.specs.declared.ops.Op.TheVariants.{Assert, Include, Negation, Conjunction, Disjunction, Successor, AlongRole, Typical, Atypical, Better, AlongBetter, Clash, Absurd}
use Rattle.judge.specs.declared.ops.UnknownOp.{UnknownOp}
use Rattle.judge.specs.declared.ops.Operand.{Operand}
use Rattle.judge.specs.declared.ops.Operand.TheVariants.{Unused, Label, Edge, Constraint}

-- the op of a number
abbrev pub op_of : ℕ → Option Op
op_of k =
    if k == 1 then Some Assert else
    if k == 2 then Some Include else
    if k == 3 then Some Negation else
    if k == 4 then Some Conjunction else
    if k == 5 then Some Disjunction else
    if k == 6 then Some Successor else
    if k == 7 then Some AlongRole else
    if k == 8 then Some Typical else
    if k == 9 then Some Atypical else
    if k == 10 then Some Better else
    if k == 11 then Some AlongBetter else
    if k == 12 then Some Clash else
    if k == 13 then Some Absurd else
    None

-- the result is the op of the number, or an error with a number that no op has
abbrev pub OpOf : ℕ → Result Op UnknownOp → Type 0
OpOf k r = MatchResult r (λ op. op_of k ≡ Some op) (λ e. (op_of k ≡ None) × (e.0 ≡ k))

-- what operand b of an op names
abbrev pub operand_of : Op → Operand
operand_of Include = Label
operand_of AlongRole = Edge
operand_of AlongBetter = Edge
operand_of Clash = Constraint
operand_of _ = Unused

-- ops 1 and 2 name an entry by operand a; the others name a constraint
abbrev pub names_entry : Op → Bool
names_entry Assert = true
names_entry Include = true
names_entry _ = false

-- an operand that is unused and not 0
abbrev pub unused_not_zero : Operand → ℕ → Bool
unused_not_zero Unused b = not (b == 0)
unused_not_zero _ b = false

-- the branch has what operand b names
abbrev pub has_operand : Operand → Branch → ℕ → Bool
has_operand Unused br b = true
has_operand Label br b = nat_lt b br.next
has_operand Edge br b = nat_lt b (length br.edges)
has_operand Constraint br b = nat_lt b (length br.constraints)

-- a test of an op; the first argument is the answer for an unknown op
abbrev pub test_op : Bool → (Op → Bool) → Option Op → Bool
test_op unknown test None = unknown
test_op unknown test (Some op) = test op

-- an unknown op, or an unused operand that is not 0
abbrev pub malformed : Step → Bool
malformed s = test_op true (λ op. unused_not_zero (operand_of op) s.b) (op_of s.op)

-- the step names an entry that was never entered
abbrev pub never_entered : Book → Step → Bool
never_entered bk s = test_op false (λ op. names_entry op && nat_le (length bk.entries) s.a) (op_of s.op)

-- the branch has the constraint, edge or label that the step names
abbrev pub has_operands : Op → Branch → Step → Bool
has_operands op br s = (names_entry op || nat_lt s.a (length br.constraints)) && has_operand (operand_of op) br s.b

-- the step names something that the branch lacks
abbrev pub lacks_operand : Branch → Step → Bool
lacks_operand br s = test_op false (λ op. not (has_operands op br s)) (op_of s.op)

-- the step names an entry that is not live
abbrev pub names_struck : Book → Step → Bool
names_struck bk s = test_op false (λ op. names_entry op && not (stored_at bk s.a).live) (op_of s.op)
