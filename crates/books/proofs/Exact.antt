-- A record is granted exactly when the book stays lawful with it. Assumes nothing.
use Rattle.std.proofs.Common.{◌≡◌, Result, Ok, Err, sym, refl, ◌∙◌, arith}
use Rattle.std.specs.Prelude.{IsOk, ◌↔◌}
use Rattle.std.proofs.lemmas.Bool.{false≢true}
use Rattle.logic.specs.declared.records.RawNode.{RawNode}
use Rattle.logic.specs.declared.records.Entry.{Entry}
use Rattle.logic.specs.declared.records.RawEntry.{RawEntry}
use Rattle.logic.specs.Written.{node_of, entry_of}
use Rattle.logic.specs.Books.{Book}
use Rattle.logic.specs.Lawful.{Lawful}
use Rattle.logic.specs.Refusals.{NodeFits, EntryFits}
use Rattle.logic.proofs.Refusing.{node_granted, node_taken, entry_granted, entry_taken}
use Rattle.books.specs.declared.faults.Unfit.TheVariants as unfit
use Rattle.books.specs.declared.faults.Reason.{Reason}
use Rattle.books.specs.declared.faults.Reason.TheVariants as reasons
use Rattle.books.specs.declared.faults.OfferFault.{OfferFault}
use Rattle.books.specs.declared.marked.MarkedNode.{MarkedNode}
use Rattle.books.specs.Faults.{reason_number}
use Rattle.books.specs.Marks.{NodeOffered, EntryOffered}

-- no reason has number 0
reason_not_0 : (r : Reason) → reason_number r ≡ 0 → ⊥
reason_not_0 reasons.Full h = omega arith
reason_not_0 (reasons.Unfit unfit.UnknownKind) h = omega arith
reason_not_0 (reasons.Unfit unfit.OutOfRange) h = omega arith
reason_not_0 (reasons.Unfit unfit.NoSuchNode) h = omega arith
reason_not_0 (reasons.Unfit unfit.TypicalMisplaced) h = omega arith

module _ (bk : Book) (lawful : Lawful bk) where
  pub node_exact : (raw : RawNode) (r : Result MarkedNode (OfferFault RawNode)) → NodeOffered bk raw r → IsOk r ↔ NodeFits bk raw
  node_exact raw (Ok m) h = let g = node_granted bk raw h.0 in (λ _. (node_of raw, g.0, g.1 lawful), λ _. refl)
  node_exact raw (Err f) h = (λ e. absurd (false≢true e), λ fits. absurd (reason_not_0 f.reason (sym h.0 ∙ node_taken bk raw fits)))

  pub entry_exact : (raw : RawEntry) (r : Result Entry (OfferFault RawEntry)) → EntryOffered bk raw r → IsOk r ↔ EntryFits bk raw
  entry_exact raw (Ok e) h = let g = entry_granted bk raw h.0 in (λ _. (entry_of raw, g.0, g.1 lawful), λ _. refl)
  entry_exact raw (Err f) h = (λ e. absurd (false≢true e), λ fits. absurd (reason_not_0 f.reason (sym h.0 ∙ entry_taken bk raw fits)))
