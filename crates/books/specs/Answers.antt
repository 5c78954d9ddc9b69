-- What the calls of an editable book answer, and what the book is after them. In each relation bk is the
-- book before the call and bk' the book after it.
-- Offer: a kind of record that can be offered to a book. nodes, entries: the two kinds.
-- IsPlainnessOf: whether two nodes are plain. Judged: what the tests of an offered record answer.
-- HasRoom: whether there is room for one more. OfferJudged: what the limit and the tests answer together.
-- OfferAnswer, StrikeAnswer: what a call answers and does.
-- Assumes nothing.
use Rattle.std.specs.Prelude.{◌≡◌, ℕ, ◌<◌, ◌≤◌, Bool, true, false, List, length, Ok, Err, Result}
use Rattle.logic.specs.declared.records.RawNode.{RawNode}
use Rattle.logic.specs.declared.records.RawEntry.{RawEntry}
use Rattle.logic.specs.Concepts.{Concept, of, plain}
use Rattle.logic.specs.Written.{node_of, entry_of}
use Rattle.logic.specs.Books.{Book, stored_at, with_node, with_entry, with_strike}
use Rattle.logic.specs.Refusals.{first_unfit, node_refusal, entry_refusal}
use Rattle.books.specs.declared.offers.PlainOperands.{PlainOperands}
use Rattle.books.specs.declared.faults.Unfit.{Unfit}
use Rattle.books.specs.declared.faults.OfferFault.{OfferFault}
use Rattle.books.specs.declared.faults.StrikeFault.{StrikeFault}
use Rattle.books.specs.declared.faults.StrikeFault.TheVariants.{NeverEntered, Struck}
use Rattle.books.specs.Faults.{unfit_number, offer_fault_number, offer_fault_place, strike_fault_number, strike_fault_place}

-- the flags tell whether the concepts a and b of a list are plain
abbrev pub IsPlainnessOf : List Concept → ℕ → ℕ → PlainOperands → Type 0
IsPlainnessOf cs a b s = (plain (of cs a) ≡ s.plain_a) × (plain (of cs b) ≡ s.plain_b)

-- which of the four tests, in their order, is the first that fails
abbrev pub FirstUnfit : Bool → Bool → Bool → Bool → Result (Unit {0}) Unfit → Type 0
FirstUnfit known in_range there placed (Ok u) = first_unfit known in_range there placed ≡ 0
FirstUnfit known in_range there placed (Err u) = first_unfit known in_range there placed ≡ unfit_number u

-- granted: the offered record x, where `unfit` is 0; refused: `unfit` is the number of the reason
abbrev pub Judged : {T : Type 0} → ℕ → T → Result T Unfit → Type 0
Judged unfit x (Ok y) = (unfit ≡ 0) × (y ≡ x)
Judged unfit x (Err u) = unfit ≡ unfit_number u

-- below the limit there is room, and otherwise the book is full: refusal 1, with the count
abbrev pub HasRoom : {R : Type 0} → ℕ → ℕ → Result (Unit {0}) (OfferFault R) → Type 0
HasRoom count limit (Ok u) = count < limit
HasRoom count limit (Err f) = (limit ≤ count) × (offer_fault_number f ≡ 1) × (offer_fault_place f ≡ count)

-- What a book that has `count` records of a kind answers to an offer. Granted: the offered record x, where `refusal`
-- is 0; refused: `refusal` is the number of the fault, and `count` is its place.
abbrev pub OfferJudged : {R T : Type 0} → ℕ → ℕ → T → Result T (OfferFault R) → Type 0
OfferJudged refusal count x (Ok y) = (refusal ≡ 0) × (y ≡ x)
OfferJudged refusal count x (Err f) = (refusal ≡ offer_fault_number f) × (offer_fault_place f ≡ count)

-- How records of one kind are offered: `refusal` is 0 if the book grants the record, `count` is how many
-- records of the kind the book has, and `more` is the book with the record added.
pub record Offer (R : Type 0) : Type 0 where
  pub refusal : Book → R → ℕ
  pub count : Book → ℕ
  pub more : Book → R → Book

-- nodes
abbrev pub nodes : Offer RawNode
nodes = record { refusal = node_refusal; count = λ bk. length bk.nodes; more = λ bk raw. with_node bk (node_of raw) }

-- entries, which are live
abbrev pub entries : Offer RawEntry
entries = record { refusal = entry_refusal; count = λ bk. length bk.entries; more = λ bk raw. with_entry bk (entry_of raw) }

-- the fault says by its number which test failed first, and by its place how many records there are
abbrev pub OfferRefused : {R : Type 0} → Offer R → Book → R → OfferFault R → Type 0
OfferRefused o bk raw f = (o.refusal bk raw ≡ offer_fault_number f) × (offer_fault_place f ≡ o.count bk)

-- granted: the record is appended, and its number is answered; refused: nothing changed
abbrev pub OfferAnswer : {R : Type 0} → Offer R → Book → Book → R → Result ℕ (OfferFault R) → Type 0
OfferAnswer o bk bk' raw (Ok i) = (o.refusal bk raw ≡ 0) × (i ≡ o.count bk) × (bk' ≡ o.more bk raw)
OfferAnswer o bk bk' raw (Err f) = OfferRefused o bk raw f × (bk' ≡ bk)

-- which entries cannot be struck
abbrev pub CannotStrike : Book → ℕ → StrikeFault → Type 0
CannotStrike bk i (NeverEntered p) = length bk.entries ≤ i
CannotStrike bk i (Struck p) = (i < length bk.entries) × ((stored_at bk i).live ≡ false)

-- Why an entry is not struck. The refusal's number, 6, and its place, the number of the entry, are written out: if the
-- definitions of the fault's number and place are wrong, the call does not prove.
abbrev pub StrikeRefused : Book → ℕ → StrikeFault → Type 0
StrikeRefused bk i f = CannotStrike bk i f × (strike_fault_number f ≡ 6) × (strike_fault_place f ≡ i)

-- granted: a live entry is struck; refused: nothing changed
abbrev pub StrikeAnswer : Book → Book → ℕ → Result (Unit {0}) StrikeFault → Type 0
StrikeAnswer bk bk' i (Ok u) = ((stored_at bk i).live ≡ true) × (bk' ≡ with_strike bk i)
StrikeAnswer bk bk' i (Err f) = StrikeRefused bk i f × (bk' ≡ bk)
