-- The steps of the check: faults, marks, one record more, the whole. Assumes nothing.
use Rattle.std.proofs.Common.{◌≡◌, ℕ, zero, suc, ◌+◌, ◌<◌, Bool, true, cond, ◌&&◌, eqb, leb, List, [], ◌∷◌, ◌++◌, length, get_or, set, replicate, Result, Ok, Err, MatchResult, sym, refl, ap, ◌∙◌, subst, inl, inr, arith}
use Rattle.std.specs.Result.{IsOkAnd, IsErrAnd}
use Rattle.std.proofs.lemmas.List.{get_or-set_same, get_or-set_other, get_or_push}
use Rattle.std.proofs.lemmas.Bool.{cases_eq, cases_lt, lt-leb, false≢true}
use Rattle.logic.specs.declared.records.Node.{Node}
use Rattle.logic.specs.Concepts.{bottom, of, read, concepts, plain}
use Rattle.logic.proofs.Mapping.{mapped_ok, mapped_err}
use Rattle.logic.proofs.Reading.{concepts-push, length-concepts}
use Rattle.books.specs.declared.faults.Unfit.{Unfit}
use Rattle.books.specs.declared.faults.Unfit.TheVariants as unfit
use Rattle.books.specs.Faults.{unfit_number}
use Rattle.books.specs.Answers.{Judged}
use Rattle.books.proofs.Replays.{get_or-push_other}
use Rattle.sealed.specs.declared.frame.Frame.{Frame}
use Rattle.sealed.specs.declared.faults.CheckFault.{CheckFault}
use Rattle.sealed.specs.declared.faults.CheckFault.TheVariants as checks
use Rattle.sealed.specs.Writing.{records_length, Sealed}
use Rattle.sealed.specs.Faults.{check_fault_number}
use Rattle.logic.specs.Bytes.{byte}
use Rattle.sealed.specs.Reading.{sealed_book}
use Rattle.sealed.specs.Checks.{AllGranted, Passes, FirstRefused, Bad, CheckAnswer}
use Rattle.sealed.specs.Frames.{EndsInTrailer}
use Rattle.sealed.specs.Steps.{PlainMarks, NodesGranted, NodeFirstRefused, EntriesChecked, FrameChecked}
use Rattle.sealed.proofs.Passing.{passed_sealed}
use Rattle.sealed.proofs.Sealing.{sealed_passes}

-- a book with room refuses a record only because it does not fit
pub with_room : (limit count unfit : ℕ) → count < limit → cond (leb limit count) 1 unfit ≡ unfit
with_room limit count unfit h = ap (λ b. cond b 1 unfit) (lt-leb limit count h)

-- what is judged of a record, by the result that the check makes of it
pub judged_ok : {T : Type 0} {n : ℕ} (x : T) (r : Result T Unfit) (m : Result T CheckFault) (P : Unfit → CheckFault → Type 0) → Judged n x r → (y : T) → MatchResult r (λ z. m ≡ Ok z) (λ u. IsErrAnd m (P u)) → m ≡ Ok y → (n ≡ 0) × (y ≡ x)
judged_ok {n = n} x r m P j y h e = subst (Judged n x) (mapped_ok r m y P h e) j

pub judged_err : {T : Type 0} {n : ℕ} (x : T) (r : Result T Unfit) (m : Result T CheckFault) (P : Unfit → CheckFault → Type 0) → Judged n x r → (f : CheckFault) → MatchResult r (λ z. m ≡ Ok z) (λ u. IsErrAnd m (P u)) → m ≡ Err f → (u : Unfit) × P u f × (n ≡ unfit_number u)
judged_err {n = n} x r m P j f h e = let was = mapped_err r m f P h e in (was.0, was.2, subst (Judged n x) was.1 j)

-- marks of no node
pub no_marks : (n : ℕ) → PlainMarks (replicate n true) []
no_marks zero k = refl
no_marks (suc n) zero = refl
no_marks (suc n) (suc k) = no_marks n k

-- one mark more
pub marks_more : (marks : List Bool) (ns : List Node) (n : Node) (i : ℕ) (mark : Bool) → i < length marks → length ns ≡ i → mark ≡ plain (read (concepts ns) n) → PlainMarks marks ns → PlainMarks (set marks i mark) (ns ++ n ∷ [])
marks_more marks ns n i mark room count is marked k = elim (cases_eq k i) [
  | inl e ↦
      (subst (λ j. get_or (set marks i mark) j true ≡ plain (of (concepts (ns ++ n ∷ [])) j)) (sym e)
      (get_or-set_same marks i mark true room ∙ is ∙ sym (ap plain (ap (λ cs. of cs i) (concepts-push ns n) ∙ get_or_push (concepts ns) (read (concepts ns) n) bottom i (length-concepts ns ∙ count)))))
  | inr e ↦
      (get_or-set_other marks i k mark true e ∙ marked k
      ∙ sym (ap plain (ap (λ cs. of cs k) (concepts-push ns n) ∙ get_or-push_other (concepts ns) (read (concepts ns) n) bottom k (λ same. e (sym same ∙ length-concepts ns ∙ count)))))
]

-- one record more is granted
pub granted_more : (refusal : ℕ → ℕ) (i : ℕ) → AllGranted refusal i → refusal i ≡ 0 → AllGranted refusal (i + 1)
granted_more refusal i g h k l = elim (cases_lt k i) [ inl below ↦ g k below | inr above ↦ (let e : i ≡ k = omega arith in subst (λ j. refusal j ≡ 0) e h) ]

-- no fault has number 0
check_fault_not_0 : (f : CheckFault) → check_fault_number f ≡ 0 → ⊥
check_fault_not_0 (checks.BadFrame n) h = omega arith
check_fault_not_0 (checks.BadRecord unfit.UnknownKind n) h = omega arith
check_fault_not_0 (checks.BadRecord unfit.OutOfRange n) h = omega arith
check_fault_not_0 (checks.BadRecord unfit.NoSuchNode n) h = omega arith
check_fault_not_0 (checks.BadRecord unfit.TypicalMisplaced n) h = omega arith

-- a record that is refused is not granted
not_granted : (refusal : ℕ → ℕ) (n from size : ℕ) (f : CheckFault) → FirstRefused refusal n from size f → AllGranted refusal n → ⊥
not_granted refusal n from size f first g = check_fault_not_0 f (sym first.number ∙ g first.which first.within)

-- bytes with something wrong do not pass, whatever the counts
bad_fails : (bs : List ℕ) (n m : ℕ) (f : CheckFault) → Bad bs f → Passes bs n m → ⊥
bad_fails bs n m f (Bad.frame unfit number place) p = false≢true (sym unfit ∙ p.fits)
bad_fails bs n m f (Bad.node {n = n'} {m = m'} fits is-n is_m first) p =
    let same-n : n ≡ n' = p.nodes_are ∙ sym is-n in
    let same-m : m ≡ m' = p.entries_are ∙ sym is_m in
    let q : Passes bs n' m' = subst (λ k. Passes bs k m') same-n (subst (Passes bs n) same-m p) in
    not_granted _ n' _ 5 f first q.nodes
bad_fails bs n m f (Bad.entry {n = n'} {m = m'} fits is-n is_m good first) p =
    let same-n : n ≡ n' = p.nodes_are ∙ sym is-n in
    let same-m : m ≡ m' = p.entries_are ∙ sym is_m in
    let q : Passes bs n' m' = subst (λ k. Passes bs k m') same-n (subst (Passes bs n) same-m p) in
    not_granted _ m' _ 7 f first q.entries

-- and so they are no sealed book
pub bad_unsealed : (bs : List ℕ) (f : CheckFault) → Bad bs f → Sealed bs → ⊥
bad_unsealed bs f bad (bk, sealed) = bad_fails bs _ _ f bad (sealed_passes bs bk sealed)

-- the tests of a trailer, at equal numbers
pub fits_is : (room n n' m m' d d' : ℕ) → n ≡ n' → m ≡ m' → d ≡ d' → (leb n 512 && (leb m 256 && (eqb d (records_length n m) && leb d room))) ≡ (leb n' 512 && (leb m' 256 && (eqb d' (records_length n' m') && leb d' room)))
fits_is room n n' m m' d d' nodes entries far = λ i. leb (nodes i) 512 && (leb (entries i) 256 && (eqb (far i) (records_length (nodes i) (entries i)) && leb (far i) room))

-- what is wrong with the bytes of a frame, by the record that is refused
module _ (bs : List ℕ) (f : Frame) (is : f.bytes.now ≡ bs) (t : EndsInTrailer f) (fault : CheckFault) where
  pub bad_node : NodeFirstRefused f fault → Bad bs fault
  bad_node first = subst (λ b. Bad b fault) is (Bad.node t.fits t.nodes_are t.entries_are first)

  pub bad_entry : NodesGranted f → EntriesChecked f (Err fault) → Bad bs fault
  bad_entry good first = subst (λ b. Bad b fault) is (Bad.entry t.fits t.nodes_are t.entries_are good first)

-- what check answers, by the frame that was checked
pub check_answer : (Q : Frame → Unit {0} → Type 0) (bs : List ℕ) (r : Result Frame CheckFault) (answer : Result (Unit {0}) CheckFault) → ((k : ℕ) → byte bs k < 256) → FrameChecked bs r → MatchResult r (λ f. IsOkAnd answer (Q f)) (λ fault. answer ≡ Err fault) → CheckAnswer bs answer
check_answer Q bs (Ok f) (Ok u) bytes h m =
    let p = subst (λ b. Passes b f.counts.nodes f.counts.entries) h.0 h.1 in
    (sealed_book bs f.counts.nodes f.counts.entries, passed_sealed bs f.counts.nodes f.counts.entries p bytes)
check_answer Q bs (Ok f) (Err fault) bytes h m = absurd m
check_answer Q bs (Err fault) answer bytes h m = subst (CheckAnswer bs) (sym m) (bad_unsealed bs fault h, h)
