-- The tests of an offered record, for any flags: what the record is, how many nodes there are, and
-- whether its operands a and b are plain. If the flags are those of a book, Refusals and Concepts say
-- what the tests mean.
-- plain_by: whether a node is plain. node_unfit_by, entry_unfit_by: why a record does not fit.
-- Assumes nothing.
use Rattle.std.specs.Prelude.{ℕ, Bool, true, false, ◌&&◌, ◌||◌}
use Rattle.logic.specs.declared.records.Node.{Node}
use Rattle.logic.specs.declared.records.Node.TheVariants as node
use Rattle.logic.specs.declared.records.RawNode.{RawNode}
use Rattle.logic.specs.declared.records.Entry.{Entry}
use Rattle.logic.specs.declared.records.Entry.TheVariants as entry
use Rattle.logic.specs.declared.records.RawEntry.{RawEntry}
use Rattle.logic.specs.Written.{node_of, entry_of}
use Rattle.logic.specs.Lawful.{is_node, node_within_limits, node_operands_below, is_entry, entry_within_limits, entry_operands_below}
use Rattle.logic.specs.Refusals.{first_unfit, node_unused_zero, entry_unused_zero}
use Rattle.books.specs.declared.offers.PlainOperands.{PlainOperands}

-- no T occurs in the node; in kinds 6 and 7 the node operand is b
abbrev pub plain_by : PlainOperands → Node → Bool
plain_by s node.Top = true
plain_by s node.Bottom = true
plain_by s (node.Name a) = true
plain_by s (node.Not c) = s.plain_a
plain_by s (node.And c d) = s.plain_a && s.plain_b
plain_by s (node.Or c d) = s.plain_a && s.plain_b
plain_by s (node.All r c) = s.plain_b
plain_by s (node.Exists r c) = s.plain_b
plain_by s (node.Typical c) = false
plain_by s node.Absent = true

-- the operand of all, some and T contains no T
abbrev pub node_typicality_allowed_by : PlainOperands → Node → Bool
node_typicality_allowed_by s node.Top = true
node_typicality_allowed_by s node.Bottom = true
node_typicality_allowed_by s (node.Name a) = true
node_typicality_allowed_by s (node.Not c) = true
node_typicality_allowed_by s (node.And c d) = true
node_typicality_allowed_by s (node.Or c d) = true
node_typicality_allowed_by s (node.All r c) = s.plain_b
node_typicality_allowed_by s (node.Exists r c) = s.plain_b
node_typicality_allowed_by s (node.Typical c) = s.plain_a
node_typicality_allowed_by s node.Absent = true

-- The left concept of an inclusion is T(c) or contains no T; the right one contains no T.
abbrev pub entry_typicality_allowed_by : Bool → PlainOperands → Entry → Bool
entry_typicality_allowed_by typical_a s (entry.Inclusion c d) = (typical_a || s.plain_a) && s.plain_b
entry_typicality_allowed_by typical_a s (entry.Fact x c) = true
entry_typicality_allowed_by typical_a s (entry.RoleFact r x y) = true
entry_typicality_allowed_by typical_a s entry.Absent = true

-- why a node does not fit a book of so many nodes
abbrev pub node_unfit_by : ℕ → PlainOperands → RawNode → ℕ
node_unfit_by count s raw =
    first_unfit (is_node (node_of raw)) (node_within_limits (node_of raw) && node_unused_zero raw) (node_operands_below count (node_of raw)) (node_typicality_allowed_by s (node_of raw))

-- why an entry does not fit; typical_a: node a is T(c) for some c
abbrev pub entry_unfit_by : ℕ → Bool → PlainOperands → RawEntry → ℕ
entry_unfit_by count typical_a s raw =
    first_unfit (is_entry (entry_of raw)) (entry_within_limits (entry_of raw) && entry_unused_zero raw) (entry_operands_below count (entry_of raw)) (entry_typicality_allowed_by typical_a s (entry_of raw))
