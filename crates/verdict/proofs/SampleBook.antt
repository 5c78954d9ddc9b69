-- The sample book sealed, a node that is offered to it, and its records. Assumes nothing.
use Rattle.std.proofs.Common.{◌≡◌, ℕ, ◌≤◌, List, [], ◌∷◌, ◌++◌, length, take, drop, Ok, Err, Result, refl, ap, ◌∙◌, sym, subst, arith}
use Rattle.logic.specs.declared.records.RawNode.{RawNode}
use Rattle.logic.specs.declared.refusal.BadLength.{BadLength}
use Rattle.logic.specs.Books.{Book}
use Rattle.logic.specs.Samples.{sample}
use Rattle.logic.proofs.Examples.{examples}
use Rattle.books.specs.declared.faults.OfferFault.{OfferFault}
use Rattle.books.specs.declared.faults.Reason.TheVariants as reasons
use Rattle.books.specs.declared.faults.Unfit.TheVariants.{TypicalMisplaced}
use Rattle.books.specs.Faults.{offer_fault_number, offer_fault_place}
use Rattle.sealed.specs.Writing.{book_bytes, SealedAs}
use Rattle.verdict.specs.Rows.{CallOutcome, Gives, RefusedAt, SealSample, OfferNode, Ends, Samples}
use Rattle.verdict.proofs.SampleBytes.{sample_whole, sample_said}
use Rattle.verdict.proofs.SampleShown.{sample_model}

long : length (book_bytes sample) ≡ 64
unfolding book_bytes
long = refl

-- the trailer: 7 nodes, 3 entries, and 56 bytes back to the first node
abbrev ending : List ℕ
ending = 0x07 ∷ 0x00 ∷ 0x03 ∷ 0x00 ∷ 0x38 ∷ 0x00 ∷ 0x00 ∷ 0x00 ∷ []

ends : (rest : List ℕ) → Ends ending 64 (book_bytes sample ++ rest)
unfolding book_bytes
ends rest = refl

sealed_as : (rest : List ℕ) → SealedAs (take 64 (book_bytes sample ++ rest)) sample
unfolding book_bytes
sealed_as rest = record { lawful = examples.sample_lawful; note = []; is = refl }

abbrev Sealing : CallOutcome (Result ℕ (BadLength 20)) (List ℕ) → Type 0
Sealing seal = (seal.answer ≡ Ok 64) × SealedAs (take 64 seal.left) sample × Ends ending 64 seal.left

module _ (out : List ℕ) (room : 64 ≤ length out) where
  seals : (r : Result ℕ (BadLength 20)) (left : List ℕ) → SealSample out (record { answer = r; left = left }) → Sealing (record { answer = r; left = left })
  seals (Ok n) left h =
      let back = sym h.1 in
      (ap Ok (h.0 ∙ long), subst (λ bs. SealedAs (take 64 bs) sample) back (sealed_as (drop n out)), subst (Ends ending 64) back (ends (drop n out)))
  seals (Err f) left h = absurd (omega (arith, h.0, long))

  pub sealed : Gives (SealSample out) Sealing
  sealed = record {
    some = (record { answer = Ok 64; left = book_bytes sample ++ drop 64 out }, (sym long, refl));
    every = λ seal h. seals seal.answer seal.left h;
  }

-- T of node 3
abbrev offered : RawNode
offered = record { kind = 8; a = 3; b = 0 }

refuses : (r : Result ℕ (OfferFault RawNode)) (left : Book) → OfferNode offered (record { answer = r; left = left }) → RefusedAt offer_fault_number offer_fault_place 5 7 r × (left ≡ sample)
refuses (Ok i) left h = let e : ◌≡◌ {A = ℕ} 5 0 = h.0 in absurd (omega arith)
refuses (Err f) left h = ((sym h.0.0, h.0.1), h.1)

pub misplaced : Gives (OfferNode offered) (λ offer. RefusedAt offer_fault_number offer_fault_place 5 7 offer.answer × (offer.left ≡ sample))
misplaced = record {
  some = (record { answer = Err (record { reason = reasons.Unfit TypicalMisplaced; count = 7; offered = record {} }); left = sample }, ((refl, refl), refl));
  every = λ offer h. refuses offer.answer offer.left h;
}

pub samples : Samples
samples = record {
  book = (record { nodes = sample.nodes; entries = [] }, (refl, (refl, (refl, (refl, (refl, (refl, (refl, refl))))))), (refl, (refl, (refl, refl))));
  question = (refl, refl);
  closed = refl;
  wrong = refl;
  whole = sample_whole;
  names = λ a. ap (λ i. i.names a) sample_said;
  model = sample_model;
}
