-- What a step does to a branch, computed. Only contracts of private functions use it: it is proved to agree
-- with the rules of the calculus, and no public promise cites it.
-- operand_records: what operand b names. entry_effect, constraint_effect: the effect of an op on an entry and on a
-- constraint. step_effect: that of a step.
-- Assumes nothing.
use Rattle.std.specs.Prelude.{ℕ, Bool, true, false, ◌&&◌, if◌then◌else◌, length, Some, None, Err, Option, Result, ◌==◌, nat_le, nat_lt, slice_index_or}
use Rattle.std.specs.Option.{ok_or}
use Rattle.logic.specs.declared.records.Node.{Node}
use Rattle.logic.specs.declared.records.Node.TheVariants as node
use Rattle.logic.specs.declared.records.Entry.{Entry}
use Rattle.logic.specs.declared.records.Entry.TheVariants as entry
use Rattle.logic.specs.declared.records.StoredEntry.{StoredEntry}
use Rattle.logic.specs.declared.tableau.Form.{Form}
use Rattle.logic.specs.declared.tableau.Form.TheVariants.{Holds, Fails, Bars, Admits}
use Rattle.logic.specs.declared.tableau.Constraint.{Constraint}
use Rattle.logic.specs.declared.tableau.Edge.{Edge}
use Rattle.logic.specs.declared.tableau.Step.{Step}
use Rattle.logic.specs.Books.{Book, node_at, stored_at}
use Rattle.logic.specs.Branches.{Branch, constraint, edge}
use Rattle.judge.specs.declared.ops.Op.{Op}
use Rattle.judge.specs.declared.ops.Op.TheVariants as op
use Rattle.judge.specs.declared.ops.Operand.{Operand}
use Rattle.judge.specs.declared.ops.Operand.TheVariants as operand
use Rattle.judge.specs.declared.effect.Effect.{Effect}
use Rattle.judge.specs.declared.effect.Effect.TheVariants.{Adds, AddsTwo, Links, Grows, GrowsTwo, Splits, Closes}
use Rattle.judge.specs.declared.step_fault.StepFault.{StepFault}
use Rattle.judge.specs.declared.step_fault.StepFault.TheVariants.{Malformed, NeverEntered, NotThere, Struck, Misfit}
use Rattle.judge.specs.Blanks.{no_constraint, no_edge}
use Rattle.judge.specs.Ops.{op_of, operand_of, names_entry, unused_not_zero, has_operand}

-- the effect, if the edge leads from x by role r
abbrev pub along : Edge → ℕ → ℕ → Effect → Option Effect
along e x r f = if e.from == x && e.role == r then Some f else None

-- the constraint is on this node at this label
abbrev pub is_on : Constraint → ℕ → ℕ → Bool
is_on c x n = c.label == x && c.node == n

-- forms that contradict each other
abbrev pub denies : Form → Form → Bool
denies Holds Fails = true
denies Bars Admits = true
denies _ _ = false

-- By op, form and kind of node: x and n are the label and the node of the constraint, e and d are the edge
-- and the other constraint that the step names.
abbrev pub rule_effect : Op → Form → Node → ℕ → ℕ → Edge → Constraint → Option Effect
rule_effect op.Negation Holds (node.Not c) x n e d = Some (Adds (constraint x Fails c))
rule_effect op.Negation Fails (node.Not c) x n e d = Some (Adds (constraint x Holds c))
rule_effect op.Conjunction Holds (node.And a c) x n e d = Some (AddsTwo (constraint x Holds a) (constraint x Holds c))
rule_effect op.Conjunction Fails (node.Or a c) x n e d = Some (AddsTwo (constraint x Fails a) (constraint x Fails c))
rule_effect op.Disjunction Holds (node.Or a c) x n e d = Some (Splits (constraint x Holds a) (constraint x Holds c))
rule_effect op.Disjunction Fails (node.And a c) x n e d = Some (Splits (constraint x Fails a) (constraint x Fails c))
rule_effect op.Successor Holds (node.Exists r c) x n e d = Some (Grows x r Holds c)
rule_effect op.Successor Fails (node.All r c) x n e d = Some (Grows x r Fails c)
rule_effect op.AlongRole Holds (node.All r c) x n e d = along e x r (Adds (constraint e.to Holds c))
rule_effect op.AlongRole Fails (node.Exists r c) x n e d = along e x r (Adds (constraint e.to Fails c))
rule_effect op.Typical Holds (node.Typical c) x n e d = Some (AddsTwo (constraint x Holds c) (constraint x Bars c))
rule_effect op.Atypical Fails (node.Typical c) x n e d = Some (Splits (constraint x Fails c) (constraint x Admits c))
rule_effect op.Better Admits m x n e d = Some (GrowsTwo x 16 Holds Bars n)
rule_effect op.AlongBetter Bars m x n e d = along e x 16 (AddsTwo (constraint e.to Fails n) (constraint e.to Bars n))
rule_effect op.Clash f m x n e d = if denies f d.form && is_on d x n then Some Closes else None
rule_effect op.Absurd Holds node.Bottom x n e d = Some Closes
rule_effect op.Absurd Fails node.Top x n e d = Some Closes
rule_effect _ _ _ x n e d = None

-- the edge and the constraint that operand b names; blanks in place of what it does not name
abbrev pub operand_records : Operand → Branch → ℕ → Edge × Constraint
operand_records operand.Edge br b = (slice_index_or br.edges b no_edge, no_constraint)
operand_records operand.Constraint br b = (no_edge, slice_index_or br.constraints b no_constraint)
operand_records _ br b = (no_edge, no_constraint)

-- the effect of an op on constraint c, which is on node m, with the edge and the constraint that the step names
abbrev pub constraint_effect : Op → Constraint → Node → Edge → Constraint → Option Effect
constraint_effect o c m e d = rule_effect o c.form m c.label c.node e d

-- the effect of an op on an entry, at label x
abbrev pub entry_effect : Entry → Op → ℕ → Option Effect
entry_effect (entry.Inclusion c d) op.Include x = Some (Splits (constraint x Fails c) (constraint x Holds d))
entry_effect (entry.Fact a c) op.Assert x = Some (Adds (constraint a Holds c))
entry_effect (entry.RoleFact r a b) op.Assert x = Some (Links (edge a r b))
entry_effect _ _ x = None

-- the effect of ops 1 and 2
unfoldable pub by_entry : Book → Branch → Op → Step → Result Effect StepFault
by_entry bk br o s =
    let stored : StoredEntry = stored_at bk s.a in
    if nat_le (length bk.entries) s.a then Err NeverEntered else
    if has_operand (operand_of o) br s.b then (if stored.live then ok_or (entry_effect stored.entry o s.b) Misfit else Err Struck) else
    Err NotThere

-- the effect of the other ops
unfoldable pub by_constraint : Book → Branch → Op → Step → Result Effect StepFault
by_constraint bk br o s =
    let c : Constraint = slice_index_or br.constraints s.a no_constraint in
    let found : Edge × Constraint = operand_records (operand_of o) br s.b in
    if nat_lt s.a (length br.constraints) && has_operand (operand_of o) br s.b
    then ok_or (constraint_effect o c (node_at bk c.node) found.0 found.1) Misfit else Err NotThere

abbrev pub by_op : Book → Branch → Step → Op → Result Effect StepFault
by_op bk br s o =
    if unused_not_zero (operand_of o) s.b then Err Malformed else
    if names_entry o then by_entry bk br o s else by_constraint bk br o s

abbrev pub by_known_op : Book → Branch → Step → Option Op → Result Effect StepFault
by_known_op bk br s None = Err Malformed
by_known_op bk br s (Some o) = by_op bk br s o

-- the effect of a step on a branch, or why it has none
abbrev pub step_effect : Book → Branch → Step → Result Effect StepFault
step_effect bk br s = by_known_op bk br s (op_of s.op)
