-- What check and seal answer.
-- Passes: the trailer fits and every record is granted in its turn. CheckAnswer, SealAnswer: what the calls answer.
-- Opened: what opening bytes gives. RoundTrip: sealing and reading agree.
-- Assumes nothing.
use Rattle.std.specs.Prelude.{◌≡◌, ℕ, ◌+◌, ◌*◌, ◌<◌, true, false, List, [], ◌++◌, length, drop, Ok, Err, Result}
use Rattle.logic.specs.declared.refusal.BadLength.{BadLength}
use Rattle.logic.specs.Lengths.{bad_length_number, bad_length_place}
use Rattle.logic.specs.Books.{Book, empty}
use Rattle.sealed.specs.declared.faults.CheckFault.{CheckFault}
use Rattle.sealed.specs.Faults.{check_fault_number, check_fault_place}
use Rattle.sealed.specs.Writing.{node_size, entry_size, book_bytes, Sealed, SealedAs}
use Rattle.sealed.specs.Reading.{has_trailer, node_total, entry_total, node_start, entry_start, nodes_in, node_refusal_in, entry_refusal_in}

-- each of the first n records is granted
abbrev pub AllGranted : (ℕ → ℕ) → ℕ → Type 0
AllGranted refusal n = (i : ℕ) → i < n → refusal i ≡ 0

-- The trailer fits, has these counts, and every record is granted in its turn.
pub record Passes (bs : List ℕ) (n m : ℕ) : Type 0 where
  pub fits : has_trailer bs ≡ true
  pub nodes_are : n ≡ node_total bs
  pub entries_are : m ≡ entry_total bs
  pub nodes : AllGranted (node_refusal_in bs (node_start bs n m)) n
  pub entries : AllGranted (entry_refusal_in bs (nodes_in bs (node_start bs n m) n) (entry_start bs m)) m

-- Of n records from an offset on, each of `size` bytes, this one is the first that is refused.
pub record FirstRefused (refusal : ℕ → ℕ) (n from size : ℕ) (f : CheckFault) : Type 0 where
  pub which : ℕ
  pub within : which < n
  pub before : AllGranted refusal which
  pub number : refusal which ≡ check_fault_number f
  pub place : check_fault_place f ≡ from + size * which

-- the trailer does not fit; or a node is the first bad record; or all nodes are good and an entry is
pub data Bad (bs : List ℕ) (f : CheckFault) : Type 0 where
  frame : has_trailer bs ≡ false → check_fault_number f ≡ 19 → check_fault_place f ≡ length bs → Bad bs f
  node : {n m : ℕ} → has_trailer bs ≡ true → n ≡ node_total bs → m ≡ entry_total bs →
      FirstRefused (node_refusal_in bs (node_start bs n m)) n (node_start bs n m) node_size f → Bad bs f
  entry : {n m : ℕ} → has_trailer bs ≡ true → n ≡ node_total bs → m ≡ entry_total bs →
      AllGranted (node_refusal_in bs (node_start bs n m)) n →
      FirstRefused (entry_refusal_in bs (nodes_in bs (node_start bs n m) n) (entry_start bs m)) m (entry_start bs m) entry_size f → Bad bs f

-- passed: the bytes are a sealed book; refused: they are not, and this is the first fault
abbrev pub CheckAnswer : List ℕ → Result (Unit {0}) CheckFault → Type 0
CheckAnswer bs (Ok u) = Sealed bs
CheckAnswer bs (Err f) = (Sealed bs → ⊥) × Bad bs f

-- sealed: the buffer begins with the bytes of the book, and the rest is unchanged; refused: the buffer
-- is too short for them, and nothing changed
abbrev pub SealAnswer : Book → List ℕ → List ℕ → Result ℕ (BadLength 20) → Type 0
SealAnswer bk out out' (Ok n) = (n ≡ length (book_bytes bk)) × (out' ≡ book_bytes bk ++ drop n out)
SealAnswer bk out out' (Err f) =
    (length out < length (book_bytes bk)) × (bad_length_number f ≡ 20) × (bad_length_place f ≡ length out) × (out' ≡ out)

-- opening the bytes of a sealed book gives that book, and opening other bytes gives the empty book
pub record Opened (bs : List ℕ) (bk : Book) : Type 0 where
  pub sealed : (sealed : Book) → SealedAs bs sealed → bk ≡ sealed
  pub unsealed : (Sealed bs → ⊥) → bk ≡ empty

-- These bytes are the book, sealed; no other book is sealed in them; and any bytes without a note in
-- which the book is sealed are these bytes.
pub record RoundTrip (bk : Book) (bytes : List ℕ) : Type 0 where
  pub sealed : SealedAs bytes bk
  pub only : (other : Book) → SealedAs bytes other → other ≡ bk
  pub same : (bs : List ℕ) (before : SealedAs bs bk) → before.note ≡ [] → bytes ≡ bs
