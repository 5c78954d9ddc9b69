-- A book that is partly copied.
-- copied_nodes: only the first nodes. copied_entries: all nodes, and the first entries with their live marks.
-- Assumes nothing.
use Rattle.std.specs.Prelude.{ℕ, [], take}
use Rattle.logic.specs.Books.{Book}

-- the first i nodes, and no entries
abbrev pub copied_nodes : Book → ℕ → Book
copied_nodes bk i = record { nodes = take i bk.nodes; entries = [] }

-- all nodes, and the first j entries with their live marks
abbrev pub copied_entries : Book → ℕ → Book
copied_entries bk j = record { nodes = bk.nodes; entries = take j bk.entries }
