-- Which books are lawful, in two independent parts.
-- WellFormed: numbers within their limits, operands that exist, not too many records.
-- TypicalityInPlace: T occurs only where the syntax of ALC+T allows it.
-- Assumes nothing.
use Rattle.std.specs.Prelude.{◌≡◌, ℕ, ◌<◌, ◌≤◌, Bool, true, false, ◌&&◌, ◌||◌, List, length, nat_lt}
use Rattle.logic.specs.declared.records.Node.{Node}
use Rattle.logic.specs.declared.records.Node.TheVariants as node
use Rattle.logic.specs.declared.records.Entry.{Entry}
use Rattle.logic.specs.declared.records.Entry.TheVariants as entry
use Rattle.logic.specs.Concepts.{Concept, of, concepts, plain, is_typical}
use Rattle.std.specs.List.{AllByRecursion}
use Rattle.logic.specs.Bounds.{node_limit, entry_limit, name_limit, role_limit, individual_limit}
use Rattle.logic.specs.Books.{Book, node_at}

-- it is a node, and not Absent
abbrev pub is_node : Node → Bool
is_node node.Top = true
is_node node.Bottom = true
is_node (node.Name a) = true
is_node (node.Not c) = true
is_node (node.And c d) = true
is_node (node.Or c d) = true
is_node (node.All r c) = true
is_node (node.Exists r c) = true
is_node (node.Typical c) = true
is_node node.Absent = false

-- names and roles are below their limits
abbrev pub node_within_limits : Node → Bool
node_within_limits node.Top = true
node_within_limits node.Bottom = true
node_within_limits (node.Name a) = nat_lt a name_limit
node_within_limits (node.Not c) = true
node_within_limits (node.And c d) = true
node_within_limits (node.Or c d) = true
node_within_limits (node.All r c) = nat_lt r role_limit
node_within_limits (node.Exists r c) = nat_lt r role_limit
node_within_limits (node.Typical c) = true
node_within_limits node.Absent = true

-- each node operand is one of the first n nodes
abbrev pub node_operands_below : ℕ → Node → Bool
node_operands_below n node.Top = true
node_operands_below n node.Bottom = true
node_operands_below n (node.Name a) = true
node_operands_below n (node.Not c) = nat_lt c n
node_operands_below n (node.And c d) = nat_lt c n && nat_lt d n
node_operands_below n (node.Or c d) = nat_lt c n && nat_lt d n
node_operands_below n (node.All r c) = nat_lt c n
node_operands_below n (node.Exists r c) = nat_lt c n
node_operands_below n (node.Typical c) = nat_lt c n
node_operands_below n node.Absent = true

-- The operand of all, some and T contains no T, at any depth; cs are the concepts of the book's nodes.
abbrev pub node_typicality_allowed : List Concept → Node → Bool
node_typicality_allowed cs node.Top = true
node_typicality_allowed cs node.Bottom = true
node_typicality_allowed cs (node.Name a) = true
node_typicality_allowed cs (node.Not c) = true
node_typicality_allowed cs (node.And c d) = true
node_typicality_allowed cs (node.Or c d) = true
node_typicality_allowed cs (node.All r c) = plain (of cs c)
node_typicality_allowed cs (node.Exists r c) = plain (of cs c)
node_typicality_allowed cs (node.Typical c) = plain (of cs c)
node_typicality_allowed cs node.Absent = true

-- it is an entry, and not Absent
abbrev pub is_entry : Entry → Bool
is_entry (entry.Inclusion c d) = true
is_entry (entry.Fact x c) = true
is_entry (entry.RoleFact r x y) = true
is_entry entry.Absent = false

-- individuals and roles are below their limits
abbrev pub entry_within_limits : Entry → Bool
entry_within_limits (entry.Inclusion c d) = true
entry_within_limits (entry.Fact x c) = nat_lt x individual_limit
entry_within_limits (entry.RoleFact r x y) = nat_lt r role_limit && (nat_lt x individual_limit && nat_lt y individual_limit)
entry_within_limits entry.Absent = true

-- each node operand is one of the first n nodes
abbrev pub entry_operands_below : ℕ → Entry → Bool
entry_operands_below n (entry.Inclusion c d) = nat_lt c n && nat_lt d n
entry_operands_below n (entry.Fact x c) = nat_lt c n
entry_operands_below n (entry.RoleFact r x y) = true
entry_operands_below n entry.Absent = true

-- The left concept of an inclusion is T(c) or contains no T; the right one contains no T. A fact may
-- contain T anywhere.
abbrev pub entry_typicality_allowed : List Concept → Entry → Bool
entry_typicality_allowed cs (entry.Inclusion c d) = (is_typical (of cs c) || plain (of cs c)) && plain (of cs d)
entry_typicality_allowed cs (entry.Fact x c) = true
entry_typicality_allowed cs (entry.RoleFact r x y) = true
entry_typicality_allowed cs entry.Absent = true

-- node number i: a node operand is a lower number
abbrev pub node_well_formed : ℕ → Node → Bool
node_well_formed i n = is_node n && (node_within_limits n && node_operands_below i n)

-- an entry of a book with n nodes
abbrev pub entry_well_formed : ℕ → Entry → Bool
entry_well_formed n e = is_entry e && (entry_within_limits e && entry_operands_below n e)

pub record WellFormed (bk : Book) : Type 0 where
  pub few_nodes : length bk.nodes ≤ node_limit
  pub few_entries : length bk.entries ≤ entry_limit
  pub nodes : (i : ℕ) → i < length bk.nodes → node_well_formed i (node_at bk i) ≡ true
  pub entries : AllByRecursion (λ l. entry_well_formed (length bk.nodes) l.entry ≡ true) bk.entries

pub record TypicalityInPlace (bk : Book) : Type 0 where
  pub nodes : (i : ℕ) → i < length bk.nodes → node_typicality_allowed (concepts bk.nodes) (node_at bk i) ≡ true
  pub entries : AllByRecursion (λ l. entry_typicality_allowed (concepts bk.nodes) l.entry ≡ true) bk.entries

pub record Lawful (bk : Book) : Type 0 where
  pub well_formed : WellFormed bk
  pub in_place : TypicalityInPlace bk
