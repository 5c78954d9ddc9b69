-- The records of a frame: how many there are, each of them, and what is past the last. Assumes nothing.
use Rattle.std.proofs.Common.{◌≡◌, ℕ, ◌<◌, ◌≤◌, length, arith}
use Rattle.std.proofs.lemmas.List.{get_or_past}
use Rattle.logic.specs.declared.records.Node.TheVariants.{Absent}
use Rattle.logic.specs.Written.{node_of}
use Rattle.logic.specs.Books.{no_stored_entry, node_at, stored_at}
use Rattle.sealed.specs.declared.frame.Frame.{Frame}
use Rattle.sealed.specs.Reading.{raw_node_at, stored_at_offset, node_start, entry_start}
use Rattle.sealed.specs.Frames.{node_place, entry_place, book_in}
use Rattle.sealed.proofs.Rows.{length-nodes_in, get_or-nodes_in, length-entries_in, get_or-entries_in}

module _ (f : Frame) where
  pub frame_nodes : length (book_in f).nodes ≡ f.counts.nodes
  frame_nodes = length-nodes_in f.bytes.now (node_start f.bytes.now f.counts.nodes f.counts.entries) f.counts.nodes

  pub frame_entries : length (book_in f).entries ≡ f.counts.entries
  frame_entries = length-entries_in f.bytes.now (entry_start f.bytes.now f.counts.entries) f.counts.entries

  pub frame_node : (i : ℕ) → i < f.counts.nodes → node_at (book_in f) i ≡ node_of (raw_node_at f.bytes.now (node_place f i))
  frame_node i h = get_or-nodes_in f.bytes.now (node_start f.bytes.now f.counts.nodes f.counts.entries) f.counts.nodes i Absent h

  pub frame_node_past : (i : ℕ) → f.counts.nodes ≤ i → node_at (book_in f) i ≡ Absent
  frame_node_past i h = get_or_past (book_in f).nodes i Absent (omega (arith, frame_nodes))

  pub frame_entry : (j : ℕ) → j < f.counts.entries → stored_at (book_in f) j ≡ stored_at_offset f.bytes.now (entry_place f j)
  frame_entry j h = get_or-entries_in f.bytes.now (entry_start f.bytes.now f.counts.entries) f.counts.entries j no_stored_entry h

  pub frame_entry_past : (j : ℕ) → f.counts.entries ≤ j → stored_at (book_in f) j ≡ no_stored_entry
  frame_entry_past j h = get_or_past (book_in f).entries j no_stored_entry (omega (arith, frame_entries))
