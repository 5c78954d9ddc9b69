-- The calls of an editable book that can change it, each with what it was offered and what it answered.
-- BookCall: such a call. Called: it was made on a book. CalledAll: a list of them was made, one after the other.
-- Assumes nothing.
use Rattle.std.specs.Prelude.{ℕ, List, [], ◌∷◌, Result}
use Rattle.logic.specs.declared.records.RawNode.{RawNode}
use Rattle.logic.specs.declared.records.RawEntry.{RawEntry}
use Rattle.logic.specs.Books.{Book}
use Rattle.books.specs.declared.faults.OfferFault.{OfferFault}
use Rattle.books.specs.declared.faults.StrikeFault.{StrikeFault}
use Rattle.books.specs.Answers.{nodes, entries, OfferAnswer, StrikeAnswer}

pub data BookCall : Type 0 where
  node : RawNode → Result ℕ (OfferFault RawNode) → BookCall
  enter : RawEntry → Result ℕ (OfferFault RawEntry) → BookCall
  strike : ℕ → Result (Unit {0}) StrikeFault → BookCall

-- on the book bk the call has its answer, and bk' is the book afterwards
abbrev pub Called : BookCall → Book → Book → Type 0
Called (node raw r) bk bk' = OfferAnswer nodes bk bk' raw r
Called (enter raw r) bk bk' = OfferAnswer entries bk bk' raw r
Called (strike i r) bk bk' = StrikeAnswer bk bk' i r

-- the calls, the newest first, made one after the other
pub data CalledAll : List BookCall → Book → Book → Type 0 where
  none : {bk : Book} → CalledAll [] bk bk
  more : {cs : List BookCall} {c : BookCall} {bk bk' bk'' : Book} →
      CalledAll cs bk bk' → Called c bk' bk'' → CalledAll (c ∷ cs) bk bk''
