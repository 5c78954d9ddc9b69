-- Rule books: their nodes and entries, and how they change.
-- Book: nodes, and entries with live marks. concept: the concept of a node.
-- with_node, with_entry, with_strike: the book after a change.
-- Assumes nothing.
use Rattle.std.specs.Prelude.{ℕ, true, false, List, [], ◌∷◌, ◌++◌, slice_index_or, slice_set}
use Rattle.logic.specs.declared.records.Node.{Node}
use Rattle.logic.specs.declared.records.Node.TheVariants as node
use Rattle.logic.specs.declared.records.Entry.{Entry}
use Rattle.logic.specs.declared.records.Entry.TheVariants as entry
use Rattle.logic.specs.declared.records.StoredEntry.{StoredEntry}
use Rattle.logic.specs.Concepts.{Concept, of, concepts}

-- nodes and entries are numbered from 0; each entry is stored with its live mark
pub record Book : Type 0 where
  pub nodes : List Node
  pub entries : List StoredEntry

abbrev pub empty : Book
empty = record { nodes = []; entries = [] }

-- node i; Absent past the end
abbrev pub node_at : Book → ℕ → Node
node_at bk i = slice_index_or bk.nodes i node.Absent

-- the value past the last entry: no entry, and not live
abbrev pub no_stored_entry : StoredEntry
no_stored_entry = record { entry = entry.Absent; live = false }

-- entry i
abbrev pub stored_at : Book → ℕ → StoredEntry
stored_at bk i = slice_index_or bk.entries i no_stored_entry

-- the concept of node i
abbrev pub concept : Book → ℕ → Concept
concept bk i = of (concepts bk.nodes) i

-- with one more node
abbrev pub with_node : Book → Node → Book
with_node bk n = record { nodes = bk.nodes ++ n ∷ []; entries = bk.entries }

-- with one more entry, live
abbrev pub with_entry : Book → Entry → Book
with_entry bk e = record { nodes = bk.nodes; entries = bk.entries ++ (record { entry = e; live = true }) ∷ [] }

-- the same entry, no longer live
abbrev pub struck : StoredEntry → StoredEntry
struck l = record { entry = l.entry; live = false }

-- entry i struck, and nothing else changed
abbrev pub with_strike : Book → ℕ → Book
with_strike bk i = record { nodes = bk.nodes; entries = slice_set bk.entries i (struck (stored_at bk i)) }
