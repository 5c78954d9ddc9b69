-- Why a book refuses an offered node or entry, by the number of the first test that fails, or 0 if
-- none does; and what it means to be granted.
-- first_unfit: the tests in their order. node_unfit, entry_unfit: the tests of an offered record.
-- unless_full: the limit before them. node_refusal, entry_refusal: both, for a node and for an entry.
-- NodeFits, EntryFits: when a book can take the offered record and stay lawful.
-- Assumes nothing.
use Rattle.std.specs.Prelude.{ℕ, Bool, if◌then◌else◌, not, ◌&&◌, length, ◌==◌, nat_le}
use Rattle.logic.specs.Bounds.{node_limit, entry_limit}
use Rattle.logic.specs.declared.records.Node.{Node}
use Rattle.logic.specs.declared.records.RawNode.{RawNode}
use Rattle.logic.specs.declared.records.Entry.{Entry}
use Rattle.logic.specs.declared.records.RawEntry.{RawEntry}
use Rattle.logic.specs.Written.{node_a, node_b, node_of, entry_a, entry_b, entry_c, entry_of, WritesNode, WritesEntry}
use Rattle.logic.specs.Concepts.{concepts}
use Rattle.logic.specs.Books.{Book, with_node, with_entry}
use Rattle.logic.specs.Lawful.{Lawful, is_node, node_within_limits, node_operands_below, node_typicality_allowed, is_entry, entry_within_limits, entry_operands_below, entry_typicality_allowed}

-- the number of the first test that fails: 2 unknown kind, 3 over its limit or unused operand not 0,
-- 4 no such node, 5 T out of place, 0 if none fails
abbrev pub first_unfit : Bool → Bool → Bool → Bool → ℕ
first_unfit known in_range there placed =
    if not known then 2 else if not in_range then 3 else if not there then 4 else if not placed then 5 else 0

-- an operand that the kind does not use is 0
abbrev pub node_unused_zero : RawNode → Bool
node_unused_zero raw = raw.a == node_a (node_of raw) && raw.b == node_b (node_of raw)

-- why a node does not fit a book with room for it
abbrev pub node_unfit : Book → RawNode → ℕ
node_unfit bk raw =
    first_unfit (is_node (node_of raw)) (node_within_limits (node_of raw) && node_unused_zero raw) (node_operands_below (length bk.nodes) (node_of raw)) (node_typicality_allowed (concepts bk.nodes) (node_of raw))

-- 1 at the limit, and otherwise why the record does not fit
abbrev pub unless_full : ℕ → ℕ → ℕ → ℕ
unless_full limit count unfit = if nat_le limit count then 1 else unfit

abbrev pub node_refusal : Book → RawNode → ℕ
node_refusal bk raw = unless_full node_limit (length bk.nodes) (node_unfit bk raw)

abbrev pub entry_unused_zero : RawEntry → Bool
entry_unused_zero raw =
    (raw.a == entry_a (entry_of raw)) && (raw.b == entry_b (entry_of raw) && raw.c == entry_c (entry_of raw))

-- why an entry does not fit a book with room for it
abbrev pub entry_unfit : Book → RawEntry → ℕ
entry_unfit bk raw =
    first_unfit (is_entry (entry_of raw)) (entry_within_limits (entry_of raw) && entry_unused_zero raw) (entry_operands_below (length bk.nodes) (entry_of raw)) (entry_typicality_allowed (concepts bk.nodes) (entry_of raw))

abbrev pub entry_refusal : Book → RawEntry → ℕ
entry_refusal bk raw = unless_full entry_limit (length bk.entries) (entry_unfit bk raw)

-- the offer is the written form of a node with which the book is lawful
abbrev pub NodeFits : Book → RawNode → Type 0
NodeFits bk raw = (n : Node) × WritesNode raw n × Lawful (with_node bk n)

abbrev pub EntryFits : Book → RawEntry → Type 0
EntryFits bk raw = (e : Entry) × WritesEntry raw e × Lawful (with_entry bk e)
