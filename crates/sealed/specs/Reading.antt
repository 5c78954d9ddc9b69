-- How sealed bytes are read: the records at an offset, and the trailer.
-- nodes_in, entries_in: the records from an offset on. has_trailer: the trailer fits the bytes.
-- sealed_book: the book of given counts that ends before the trailer.
-- Assumes nothing.
use Rattle.std.specs.Prelude.{ℕ, ◌+◌, ◌-◌, ◌*◌, Bool, if◌then◌else◌, ◌&&◌, List, [], map, length, ◌==◌, nat_le, nat_lt}
use Rattle.std.specs.List.{range_with_len}
use Rattle.logic.specs.Bounds.{node_limit, entry_limit}
use Rattle.logic.specs.Bytes.{byte, u16_at, u32_at}
use Rattle.logic.specs.declared.records.Node.{Node}
use Rattle.logic.specs.declared.records.RawNode.{RawNode}
use Rattle.logic.specs.declared.records.RawEntry.{RawEntry}
use Rattle.logic.specs.declared.records.StoredEntry.{StoredEntry}
use Rattle.logic.specs.Written.{node_of, entry_of}
use Rattle.logic.specs.Books.{Book}
use Rattle.logic.specs.Refusals.{node_refusal, entry_refusal}
use Rattle.sealed.specs.Writing.{node_size, entry_size, trailer_size, struck_mark, records_length}

-- the node that is written at an offset
abbrev pub raw_node_at : List ℕ → ℕ → RawNode
raw_node_at bs i = record { kind = byte bs i; a = u16_at bs (i + 1); b = u16_at bs (i + 3) }

-- the entry that is written at an offset, without the mark of a struck one
abbrev pub raw_entry_at : List ℕ → ℕ → RawEntry
raw_entry_at bs i =
    record { kind = if nat_lt (byte bs i) struck_mark then byte bs i else byte bs i - struck_mark; a = u16_at bs (i + 1); b = u16_at bs (i + 3); c = u16_at bs (i + 5) }

-- the entry with its live mark
abbrev pub stored_at_offset : List ℕ → ℕ → StoredEntry
stored_at_offset bs i = record { entry = entry_of (raw_entry_at bs i); live = nat_lt (byte bs i) struck_mark }

-- n nodes from an offset on
unfoldable pub nodes_in : List ℕ → ℕ → ℕ → List Node
nodes_in bs from n = map (λ i. node_of (raw_node_at bs (from + node_size * i))) (range_with_len 0 n)

-- n entries from an offset on, with their live marks
unfoldable pub entries_in : List ℕ → ℕ → ℕ → List StoredEntry
entries_in bs from n = map (λ i. stored_at_offset bs (from + entry_size * i)) (range_with_len 0 n)

-- the trailer: both counts, and the distance back to the first node
unfoldable pub node_total : List ℕ → ℕ
node_total bs = u16_at bs (length bs - trailer_size)

unfoldable pub entry_total : List ℕ → ℕ
entry_total bs = u16_at bs (length bs - 6)

unfoldable pub distance : List ℕ → ℕ
distance bs = u32_at bs (length bs - 4)

-- There is a trailer, its counts are within the limits, and its distance is that of the counts and not
-- longer than the bytes before the trailer.
abbrev pub has_trailer : List ℕ → Bool
has_trailer bs =
    nat_le trailer_size (length bs)
    && (nat_le (node_total bs) node_limit
    && (nat_le (entry_total bs) entry_limit
    && (distance bs == records_length (node_total bs) (entry_total bs)
    && nat_le (distance bs) (length bs - trailer_size))))

-- the offset of the first node, and that of the first entry
abbrev pub node_start : List ℕ → ℕ → ℕ → ℕ
node_start bs n m = length bs - trailer_size - records_length n m

abbrev pub entry_start : List ℕ → ℕ → ℕ
entry_start bs m = length bs - trailer_size - entry_size * m

-- the book of n nodes and m entries before the trailer
abbrev pub sealed_book : List ℕ → ℕ → ℕ → Book
sealed_book bs n m = record { nodes = nodes_in bs (node_start bs n m) n; entries = entries_in bs (entry_start bs m) m }

-- why node i is refused when it is offered to the book of the nodes before it; 0 if it is granted
abbrev pub node_refusal_in : List ℕ → ℕ → ℕ → ℕ
node_refusal_in bs from i = node_refusal (record { nodes = nodes_in bs from i; entries = [] }) (raw_node_at bs (from + node_size * i))

-- why entry j is refused when it is offered to the book of these nodes and the entries before it
abbrev pub entry_refusal_in : List ℕ → List Node → ℕ → ℕ → ℕ
entry_refusal_in bs ns from j = entry_refusal (record { nodes = ns; entries = entries_in bs from j }) (raw_entry_at bs (from + entry_size * j))
