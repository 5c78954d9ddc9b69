-- The written form of nodes and entries: a kind and its operands, an unused operand being 0.
-- node_kind, node_a, node_b: the numbers of each node. node_of: the node of given numbers.
-- WritesNode: these are the numbers of a node.
-- entry_kind, entry_a, entry_b, entry_c, entry_of, WritesEntry: the same of entries.
-- Assumes nothing.
use Rattle.std.specs.Prelude.{◌≡◌, ℕ, if◌then◌else◌, ◌==◌}
use Rattle.logic.specs.declared.records.Node.{Node}
use Rattle.logic.specs.declared.records.Node.TheVariants as node
use Rattle.logic.specs.declared.records.RawNode.{RawNode}
use Rattle.logic.specs.declared.records.Entry.{Entry}
use Rattle.logic.specs.declared.records.Entry.TheVariants as entry
use Rattle.logic.specs.declared.records.RawEntry.{RawEntry}

-- the kind byte; 255 past the end of a book
abbrev pub node_kind : Node → ℕ
node_kind node.Top = 0
node_kind node.Bottom = 1
node_kind (node.Name a) = 2
node_kind (node.Not a) = 3
node_kind (node.And a b) = 4
node_kind (node.Or a b) = 5
node_kind (node.All a b) = 6
node_kind (node.Exists a b) = 7
node_kind (node.Typical a) = 8
node_kind node.Absent = 255

-- the first operand
abbrev pub node_a : Node → ℕ
node_a node.Top = 0
node_a node.Bottom = 0
node_a (node.Name a) = a
node_a (node.Not a) = a
node_a (node.And a b) = a
node_a (node.Or a b) = a
node_a (node.All a b) = a
node_a (node.Exists a b) = a
node_a (node.Typical a) = a
node_a node.Absent = 0

-- the second operand
abbrev pub node_b : Node → ℕ
node_b node.Top = 0
node_b node.Bottom = 0
node_b (node.Name a) = 0
node_b (node.Not a) = 0
node_b (node.And a b) = b
node_b (node.Or a b) = b
node_b (node.All a b) = b
node_b (node.Exists a b) = b
node_b (node.Typical a) = 0
node_b node.Absent = 0

-- the node of a kind with these operands; Absent if no node has the kind
abbrev pub node_of : RawNode → Node
node_of raw =
    if raw.kind == 0 then node.Top
    else if raw.kind == 1 then node.Bottom
    else if raw.kind == 2 then node.Name raw.a
    else if raw.kind == 3 then node.Not raw.a
    else if raw.kind == 4 then node.And raw.a raw.b
    else if raw.kind == 5 then node.Or raw.a raw.b
    else if raw.kind == 6 then node.All raw.a raw.b
    else if raw.kind == 7 then node.Exists raw.a raw.b
    else if raw.kind == 8 then node.Typical raw.a
    else node.Absent

-- these are the numbers of the node
pub record WritesNode (raw : RawNode) (n : Node) : Type 0 where
  pub kind : raw.kind ≡ node_kind n
  pub a : raw.a ≡ node_a n
  pub b : raw.b ≡ node_b n

-- the kind byte; 255 past the end of a book
abbrev pub entry_kind : Entry → ℕ
entry_kind (entry.Inclusion a b) = 1
entry_kind (entry.Fact a b) = 2
entry_kind (entry.RoleFact a b c) = 3
entry_kind entry.Absent = 255

-- the first operand
abbrev pub entry_a : Entry → ℕ
entry_a (entry.Inclusion a b) = a
entry_a (entry.Fact a b) = a
entry_a (entry.RoleFact a b c) = a
entry_a entry.Absent = 0

-- the second operand
abbrev pub entry_b : Entry → ℕ
entry_b (entry.Inclusion a b) = b
entry_b (entry.Fact a b) = b
entry_b (entry.RoleFact a b c) = b
entry_b entry.Absent = 0

-- the third operand
abbrev pub entry_c : Entry → ℕ
entry_c (entry.Inclusion a b) = 0
entry_c (entry.Fact a b) = 0
entry_c (entry.RoleFact a b c) = c
entry_c entry.Absent = 0

-- the entry of a kind with these operands; Absent if no entry has the kind
abbrev pub entry_of : RawEntry → Entry
entry_of raw =
    if raw.kind == 1 then entry.Inclusion raw.a raw.b
    else if raw.kind == 2 then entry.Fact raw.a raw.b
    else if raw.kind == 3 then entry.RoleFact raw.a raw.b raw.c
    else entry.Absent

-- these are the numbers of the entry
pub record WritesEntry (raw : RawEntry) (e : Entry) : Type 0 where
  pub kind : raw.kind ≡ entry_kind e
  pub a : raw.a ≡ entry_a e
  pub b : raw.b ≡ entry_b e
  pub c : raw.c ≡ entry_c e
