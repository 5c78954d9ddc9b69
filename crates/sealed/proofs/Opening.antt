-- What is opened: a lawful book that lies within the bytes, the one that was sealed. Assumes nothing.
use Rattle.std.proofs.Common.{◌≡◌, ℕ, ◌<◌, ◌⊎◌, List, [], ◌++◌, length, Result, Ok, Err, sym, ap, ◌∙◌, subst, inl, inr}
use Rattle.std.specs.Result.{result_unwrap_or}
use Rattle.logic.specs.Books.{Book, empty}
use Rattle.logic.specs.Lawful.{Lawful}
use Rattle.logic.proofs.Lawfulness.{lawful_empty}
use Rattle.sealed.specs.declared.frame.Frame.{Frame}
use Rattle.sealed.specs.declared.faults.CheckFault.{CheckFault}
use Rattle.sealed.specs.Writing.{book_bytes, Sealed, SealedAs}
use Rattle.logic.specs.Bytes.{byte}
use Rattle.sealed.specs.Reading.{sealed_book, node_start, entry_start}
use Rattle.sealed.specs.Checks.{Passes, Opened, RoundTrip}
use Rattle.sealed.specs.Frames.{book_in}
use Rattle.sealed.specs.Steps.{PassesOrEmpty, FrameChecked}
use Rattle.sealed.proofs.Rows.{nodes_in_none, entries_in_none}
use Rattle.sealed.proofs.Passing.{passed_lawful, passed_sealed}
use Rattle.sealed.proofs.Sealing.{sealed_passes, sealed_reads}
use Rattle.sealed.proofs.Checking.{bad_unsealed}

-- a book of no records is empty
pub no_records : (bs : List ℕ) → sealed_book bs 0 0 ≡ empty
no_records bs = λ i. record { nodes = nodes_in_none bs (node_start bs 0 0) i; entries = entries_in_none bs (entry_start bs 0) i }

pub stood_lawful : (bs : List ℕ) (n m : ℕ) → Passes bs n m ⊎ ((n ≡ 0) × (m ≡ 0)) → Lawful (sealed_book bs n m)
stood_lawful bs n m (inl p) = passed_lawful bs n m p
stood_lawful bs n m (inr z) = subst (λ k. Lawful (sealed_book bs k m)) (sym z.0) (subst (λ k. Lawful (sealed_book bs 0 k)) (sym z.1) (subst Lawful (sym (no_records bs)) lawful_empty))

-- the counts of bytes that pass are those of the book that is sealed in them
pub passed_reads : (bs : List ℕ) (n m : ℕ) → Passes bs n m → (bk : Book) → SealedAs bs bk → sealed_book bs n m ≡ bk
passed_reads bs n m p bk sealed =
    let q = sealed_passes bs bk sealed in
    let same-n : length bk.nodes ≡ n = q.nodes_are ∙ sym p.nodes_are in
    let same-m : length bk.entries ≡ m = q.entries_are ∙ sym p.entries_are in
    subst (λ k. sealed_book bs k m ≡ bk) same-n (subst (λ k. sealed_book bs (length bk.nodes) k ≡ bk) same-m (sealed_reads bs bk sealed))

-- one book is sealed in bytes
pub sealed_once : (bs : List ℕ) (a b : Book) → SealedAs bs a → SealedAs bs b → a ≡ b
sealed_once bs a b as-a as-b = sym (sealed_reads bs a as-a) ∙ passed_reads bs _ _ (sealed_passes bs a as-a) b as-b

-- the frame with which bytes are opened: they pass with its counts, or it is empty and they are no sealed book
abbrev pub Counted : Frame → Type 0
Counted f = Passes f.bytes.now f.counts.nodes f.counts.entries ⊎ ((f.counts.nodes ≡ 0) × (f.counts.entries ≡ 0) × (Sealed f.bytes.now → ⊥))

pub counted : (bs : List ℕ) (r : Result Frame CheckFault) (none : Frame) → FrameChecked bs r → none.bytes.now ≡ bs → none.counts.nodes ≡ 0 → none.counts.entries ≡ 0 → Counted (result_unwrap_or r none)
counted bs (Ok f) none h is no_nodes no_entries = inl h.1
counted bs (Err fault) none bad is no_nodes no_entries = inr (no_nodes, no_entries, subst (λ b. Sealed b → ⊥) (sym is) (bad_unsealed bs fault bad))

pub counted_bytes : (bs : List ℕ) (r : Result Frame CheckFault) (none : Frame) → FrameChecked bs r → none.bytes.now ≡ bs → (result_unwrap_or r none).bytes.now ≡ bs
counted_bytes bs (Ok f) none h is = h.0
counted_bytes bs (Err fault) none bad is = is

module _ (f : Frame) (h : Counted f) where
  abbrev stood : Passes f.bytes.now f.counts.nodes f.counts.entries ⊎ ((f.counts.nodes ≡ 0) × (f.counts.entries ≡ 0))
  stood = elim h [ inl p ↦ inl p | inr z ↦ inr (z.0, z.1) ]

  pub counted_stands : PassesOrEmpty f.bytes.now f.counts.nodes f.counts.entries
  counted_stands = ∣ stood ∣₁

  pub counted_lawful : Lawful (book_in f)
  counted_lawful = stood_lawful f.bytes.now f.counts.nodes f.counts.entries stood

  pub opened : ((k : ℕ) → byte f.bytes.now k < 256) → Opened f.bytes.now (book_in f)
  opened bytes = elim h [
    | inl p ↦ record { sealed = passed_reads f.bytes.now f.counts.nodes f.counts.entries p; unsealed = λ none. absurd (none (book_in f, passed_sealed f.bytes.now f.counts.nodes f.counts.entries p bytes)) }
    | inr z ↦ record { sealed = λ bk is. absurd (z.2 (bk, is)); unsealed = λ _. (λ i. sealed_book f.bytes.now (z.0 i) (z.1 i)) ∙ no_records f.bytes.now }
  ]

-- the writing of a lawful book by itself
pub round_trip : (bk : Book) → Lawful bk → (bytes : List ℕ) → bytes ≡ book_bytes bk → RoundTrip bk bytes
round_trip bk lawful bytes is =
    let sealed : SealedAs bytes bk = record { lawful = lawful; note = []; is = is } in
    record {
      sealed = sealed;
      only = λ other as-other. sealed_once bytes other bk as-other sealed;
      same = λ bs before none. is ∙ sym (before.is ∙ ap (λ note. note ++ book_bytes bk) none);
    }
