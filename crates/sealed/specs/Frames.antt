-- The records of a frame: bytes with the counts of the records in them, which end right before a trailer.
-- Assumes nothing.
use Rattle.std.specs.Prelude.{◌≡◌, ℕ, ◌+◌, ◌*◌, true, List}
use Rattle.logic.specs.declared.records.Node.{Node}
use Rattle.logic.specs.declared.records.StoredEntry.{StoredEntry}
use Rattle.logic.specs.Books.{Book}
use Rattle.sealed.specs.declared.frame.Frame.{Frame}
use Rattle.sealed.specs.Writing.{node_size, entry_size}
use Rattle.sealed.specs.Reading.{node_start, entry_start, nodes_in, entries_in, node_total, entry_total, has_trailer, sealed_book}

-- the offset of node i, and that of entry j
abbrev pub node_place : Frame → ℕ → ℕ
node_place f i = node_start f.bytes.now f.counts.nodes f.counts.entries + node_size * i

abbrev pub entry_place : Frame → ℕ → ℕ
entry_place f j = entry_start f.bytes.now f.counts.entries + entry_size * j

-- the first i nodes, and the first j entries
abbrev pub first_nodes : Frame → ℕ → List Node
first_nodes f i = nodes_in f.bytes.now (node_start f.bytes.now f.counts.nodes f.counts.entries) i

abbrev pub first_entries : Frame → ℕ → List StoredEntry
first_entries f j = entries_in f.bytes.now (entry_start f.bytes.now f.counts.entries) j

-- all nodes and entries
abbrev pub book_in : Frame → Book
book_in f = sealed_book f.bytes.now f.counts.nodes f.counts.entries

-- the bytes end in a trailer that fits, and the counts are those of the trailer
pub record EndsInTrailer (f : Frame) : Type 0 where
  pub fits : has_trailer f.bytes.now ≡ true
  pub nodes_are : f.counts.nodes ≡ node_total f.bytes.now
  pub entries_are : f.counts.entries ≡ entry_total f.bytes.now
