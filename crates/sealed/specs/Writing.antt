-- How a book is written as bytes, and which bytes are a sealed book.
-- book_bytes: the nodes, the entries and a trailer. SealedAs: a note, and then the writing of a lawful book.
-- Assumes nothing.
use Rattle.std.specs.Prelude.{◌≡◌, ℕ, ◌+◌, ◌*◌, ◌/◌, ◌%◌, if◌then◌else◌, List, [], ◌∷◌, ◌++◌, length}
use Rattle.std.specs.List.{flat_map}
use Rattle.logic.specs.declared.records.Node.{Node}
use Rattle.logic.specs.declared.records.StoredEntry.{StoredEntry}
use Rattle.logic.specs.Written.{node_kind, node_a, node_b, entry_kind, entry_a, entry_b, entry_c}
use Rattle.logic.specs.Books.{Book}
use Rattle.logic.specs.Lawful.{Lawful}

-- a number of 16 bits, low byte first
abbrev pub u16_bytes : ℕ → List ℕ
u16_bytes n = n % 256 ∷ n / 256 ∷ []

-- a number of 32 bits, low byte first
abbrev pub u32_bytes : ℕ → List ℕ
u32_bytes n = u16_bytes (n % 65536) ++ u16_bytes (n / 65536)

-- the lengths of a node, of an entry and of the trailer, in bytes
abbrev pub node_size : ℕ
node_size = 5

abbrev pub entry_size : ℕ
entry_size = 7

abbrev pub trailer_size : ℕ
trailer_size = 8

-- what is added to the kind of a struck entry
abbrev pub struck_mark : ℕ
struck_mark = 16

-- a node: its kind and both operands
abbrev pub node_bytes : Node → List ℕ
node_bytes n = node_kind n ∷ (u16_bytes (node_a n) ++ u16_bytes (node_b n))

-- an entry: its kind, marked if it is struck, and its operands
abbrev pub entry_bytes : StoredEntry → List ℕ
entry_bytes l =
    (entry_kind l.entry + (if l.live then 0 else struck_mark)) ∷ (u16_bytes (entry_a l.entry) ++ (u16_bytes (entry_b l.entry) ++ u16_bytes (entry_c l.entry)))

-- the length of n nodes and m entries, in bytes
abbrev pub records_length : ℕ → ℕ → ℕ
records_length n m = node_size * n + entry_size * m

-- both counts, and the distance back from the trailer to the first node
abbrev pub trailer_bytes : ℕ → ℕ → List ℕ
trailer_bytes n m = u16_bytes n ++ (u16_bytes m ++ u32_bytes (records_length n m))

unfoldable pub book_bytes : Book → List ℕ
book_bytes bk = flat_map node_bytes bk.nodes ++ (flat_map entry_bytes bk.entries ++ trailer_bytes (length bk.nodes) (length bk.entries))

-- a note of any length, and then the writing of this book, which is lawful
pub record SealedAs (bs : List ℕ) (bk : Book) : Type 0 where
  pub lawful : Lawful bk
  pub note : List ℕ
  pub is : bs ≡ note ++ book_bytes bk

-- the bytes are a sealed book
abbrev pub Sealed : List ℕ → Type 0
Sealed bs = (bk : Book) × SealedAs bs bk
