-- What the records of a journal mean.
-- record_limit: how many records a journal has at most. recorded, replay: the book after one record and after a list of records.
-- recorded_nodes: the nodes of the records. struck_count: how many entries are struck.
-- Consistent: records, their number and both counts agree.
-- Assumes nothing.
use Rattle.std.specs.Prelude.{◌≡◌, ℕ, ◌+◌, ◌≤◌, if◌then◌else◌, List, [], ◌∷◌, length, Option, Some, None}
use Rattle.std.specs.List.{filter_map}
use Rattle.logic.specs.declared.records.StoredEntry.{StoredEntry}
use Rattle.logic.specs.Bounds.{node_limit, entry_limit}
use Rattle.logic.specs.Concepts.{plain_marks}
use Rattle.logic.specs.Books.{Book, empty, with_node, with_entry, with_strike}
use Rattle.logic.specs.Lawful.{Lawful}
use Rattle.books.specs.declared.marked.MarkedNode.{MarkedNode}
use Rattle.books.specs.declared.journal_record.Record.{Record}
use Rattle.books.specs.declared.journal_record.Record.TheVariants as records
use Rattle.books.specs.Marks.{marks_of_nodes}

-- a record for each node, one for each entry, and one for each entry that is struck
abbrev pub record_limit : ℕ
record_limit = 1024

-- the book after one record
abbrev pub recorded : Book → Record → Book
recorded bk (records.Node m) = with_node bk m.node
recorded bk (records.Entry e) = with_entry bk e
recorded bk (records.Strike i) = with_strike bk i

-- the book after a list of records, one after the other
abbrev pub replay : Book → List Record → Book
replay bk [] = bk
replay bk (r ∷ rs) = replay (recorded bk r) rs

-- the node of a record, if it has one
abbrev pub node_in : Record → Option MarkedNode
node_in (records.Node m) = Some m
node_in (records.Entry e) = None
node_in (records.Strike i) = None

-- the nodes of the records with their marks, in their order
abbrev pub recorded_nodes : List Record → List MarkedNode
recorded_nodes rs = filter_map node_in rs

-- how many of the entries are not live
abbrev pub struck_count : List StoredEntry → ℕ
struck_count [] = 0
struck_count (l ∷ ls) = (if l.live then 0 else 1) + struck_count ls

-- These records, of which there are `len`, mean a lawful book with these counts of nodes and entries, and with
-- these marks. There is one record for each node, for each entry and for each struck entry.
pub record Consistent (rs : List Record) (len nodes entries : ℕ) : Type 0 where
  pub counted_nodes : nodes ≡ length (replay empty rs).nodes
  pub counted_entries : entries ≡ length (replay empty rs).entries
  pub counted : len ≡ nodes + entries + struck_count (replay empty rs).entries
  pub few_nodes : nodes ≤ node_limit
  pub few_entries : entries ≤ entry_limit
  pub marked : marks_of_nodes (recorded_nodes rs) ≡ plain_marks (replay empty rs).nodes
  pub lawful : Lawful (replay empty rs)
