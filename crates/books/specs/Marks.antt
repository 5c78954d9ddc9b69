-- Nodes with marks that tell whether they are plain; and what a book with marks answers to an offer.
-- nodes_of, marks_of_nodes: the nodes and the marks of a list of marked nodes. no_node: the value past the end.
-- NodeOffered, EntryOffered: the record that is offered, or why it is refused.
-- MayStrike: whether an entry can be struck.
-- Assumes nothing.
use Rattle.std.specs.Prelude.{◌≡◌, ℕ, Bool, true, List, map, Ok, Err, Result}
use Rattle.logic.specs.declared.records.Node.{Node}
use Rattle.logic.specs.declared.records.Node.TheVariants.{Absent}
use Rattle.logic.specs.declared.records.RawNode.{RawNode}
use Rattle.logic.specs.declared.records.Entry.{Entry}
use Rattle.logic.specs.declared.records.RawEntry.{RawEntry}
use Rattle.logic.specs.Concepts.{concepts, read, plain}
use Rattle.logic.specs.Written.{node_of, entry_of}
use Rattle.logic.specs.Books.{Book, stored_at}
use Rattle.logic.specs.Refusals.{node_refusal, entry_refusal}
use Rattle.books.specs.declared.marked.MarkedNode.{MarkedNode}
use Rattle.books.specs.declared.faults.OfferFault.{OfferFault}
use Rattle.books.specs.declared.faults.StrikeFault.{StrikeFault}
use Rattle.books.specs.Answers.{nodes, entries, OfferRefused, StrikeRefused}

-- the nodes, without their marks
abbrev pub nodes_of : List MarkedNode → List Node
nodes_of ms = map (λ m. m.node) ms

-- the marks, without their nodes
abbrev pub marks_of_nodes : List MarkedNode → List Bool
marks_of_nodes ms = map (λ m. m.plain) ms

-- the value past the end: no node, marked as plain
abbrev pub no_node : MarkedNode
no_node = record { node = Absent; plain = true }

-- granted: the node that was offered, with its mark
abbrev pub NodeOffered : Book → RawNode → Result MarkedNode (OfferFault RawNode) → Type 0
NodeOffered bk raw (Ok m) =
    (node_refusal bk raw ≡ 0) × (m.node ≡ node_of raw) × (m.plain ≡ plain (read (concepts bk.nodes) m.node))
NodeOffered bk raw (Err f) = OfferRefused nodes bk raw f

abbrev pub EntryOffered : Book → RawEntry → Result Entry (OfferFault RawEntry) → Type 0
EntryOffered bk raw (Ok e) = (entry_refusal bk raw ≡ 0) × (e ≡ entry_of raw)
EntryOffered bk raw (Err f) = OfferRefused entries bk raw f

abbrev pub MayStrike : Book → ℕ → Result (Unit {0}) StrikeFault → Type 0
MayStrike bk i (Ok u) = (stored_at bk i).live ≡ true
MayStrike bk i (Err f) = StrikeRefused bk i f
