-- The sample rows: for each sample input the contract can be met, and only by the expected answer.
-- Gives: the outcomes of a call. RefusedAt: a refusal by number and place. pairs, lists: what is handed over.
-- FillPairs, FillRanks, ShowSample, Refute: the promises of calls. Samples: the samples. Rows: the rows.
-- Assumes nothing.
use Rattle.std.specs.Prelude.{◌≡◌, ℕ, ◌-◌, ◌≤◌, List, [], ◌∷◌, ◌++◌, length, take, Ok, Result, IsOkAnd, IsErrAnd, slice_index, slice_range}
use Rattle.logic.specs.declared.records.RawNode.{RawNode}
use Rattle.logic.specs.declared.refusal.BadLength.{BadLength}
use Rattle.logic.specs.declared.tableau.Step.{Step}
use Rattle.logic.specs.Books.{Book, empty}
use Rattle.logic.specs.Limits.{Lengths}
use Rattle.logic.specs.Samples.{sample, unsatisfiable_sample, refutation, wrong_steps, SampleModel}
use Rattle.books.specs.declared.faults.OfferFault.{OfferFault}
use Rattle.books.specs.declared.sample.TheConstants.{NODES, ENTRIES, QUESTION, REFUTATION, WRONG_STEPS}
use Rattle.books.specs.Faults.{offer_fault_number, offer_fault_place}
use Rattle.books.specs.Answers.{nodes, entries, OfferAnswer}
use Rattle.books.specs.Writing.{ListGranted}
use Rattle.sealed.specs.Writing.{u32_bytes, SealedAs}
use Rattle.sealed.specs.Checks.{SealAnswer}
use Rattle.orders.specs.declared.faults.PairsFault.{PairsFault}
use Rattle.orders.specs.Masks.{Preference}
use Rattle.orders.specs.PairLaws.{order_of_pairs, PairsLawful}
use Rattle.orders.specs.RankLaws.{order_of_ranks, RanksLawful}
use Rattle.orders.specs.Faults.{pairs_fault_number, pairs_fault_place}
use Rattle.orders.specs.Answers.{PairsRefused, RanksRefused, FillAnswer}
use Rattle.models.specs.Interpretations.{interpretation_of}
use Rattle.models.specs.Meanings.{Compatible, model_of}
use Rattle.models.specs.Answers.{HasModelLength}
use Rattle.models.specs.Samples.{sample_bytes}
use Rattle.judge.specs.declared.faults.RefuteFault.{RefuteFault}
use Rattle.judge.specs.declared.show_faults.ShowFault.{ShowFault}
use Rattle.judge.specs.declared.used.Used.{Used}
use Rattle.judge.specs.Faults.{refute_fault_number, refute_fault_place}
use Rattle.judge.specs.ShowFaults.{show_fault_number, show_fault_place}
use Rattle.judge.specs.ShowAnswers.{ShowPromise}
use Rattle.judge.specs.Steps.{encoded}
use Rattle.judge.specs.Members.{member_count}
use Rattle.judge.specs.Refutations.{RefuteAnswer}

-- an answer, and what the call leaves in its argument
pub record CallOutcome (R S : Type 0) : Type 0 where
  pub answer : R
  pub left : S

-- some outcome meets the contract, and every outcome that meets it is as the row says
pub record Gives {A : Type 0} (Promise Row : A → Type 0) : Type 0 where
  pub some : (a : A) × Promise a
  pub every : (a : A) → Promise a → Row a

-- refused with this number and place
abbrev pub RefusedAt : {T F : Type 0} → (F → ℕ) → (F → ℕ) → ℕ → ℕ → Result T F → Type 0
RefusedAt number_of place_of number place r = IsErrAnd r (λ f. (number_of f ≡ number) × (place_of f ≡ place))

-- the bytes of an order of two elements by pairs: the sets of the elements that are better than 0, and than 1
abbrev pub pairs : ℕ → ℕ → List ℕ
pairs first second = u32_bytes first ++ u32_bytes second

-- the outcome of a fill: its answer, and the order that is left
abbrev pub Filling : Type 0 → Type 0
Filling Fault = CallOutcome (Result (Unit {0}) Fault) Preference

-- Pairs, or ranks, are filled from bytes. They meant the order `before`.
abbrev pub FillPairs : List ℕ → Preference → Filling PairsFault → Type 0
FillPairs bs before fill = FillAnswer PairsLawful order_of_pairs PairsRefused before fill.left bs fill.answer

abbrev pub FillRanks : List ℕ → Preference → Filling (BadLength 7) → Type 0
FillRanks bs before fill = FillAnswer RanksLawful order_of_ranks RanksRefused before fill.left bs fill.answer

-- show of the sample book and the sample model, with this order and a list of seven places: the answer, and the list
-- afterwards
abbrev pub ShowSample : Preference → CallOutcome (Result ℕ ShowFault) (List ℕ) → Type 0
ShowSample o show = (length show.left ≡ 7) × ShowPromise sample sample_bytes o 7 show.left show.answer

-- lists for so many constraints, edges and pending splits
abbrev pub lists : ℕ → ℕ → ℕ → Lengths
lists constraints edges splits = record { constraints = constraints; edges = edges; splits = splits }

-- refute of a book and steps, with lists of these lengths
abbrev pub Refute : Book → Lengths → List Step → Result Used RefuteFault → Type 0
Refute bk ls ss answer = RefuteAnswer bk ls (encoded ss) answer

-- seal of the sample book into a buffer: the answer, and the buffer afterwards
abbrev pub SealSample : List ℕ → CallOutcome (Result ℕ (BadLength 20)) (List ℕ) → Type 0
SealSample out seal = SealAnswer sample out seal.left seal.answer

-- a node is offered to the sample book: the answer, and the book afterwards
abbrev pub OfferNode : RawNode → CallOutcome (Result ℕ (OfferFault RawNode)) Book → Type 0
OfferNode raw offer = OfferAnswer nodes sample offer.left raw offer.answer

-- the first n bytes of a buffer end in this list
abbrev pub Ends : List ℕ → ℕ → List ℕ → Type 0
Ends bytes n out = slice_range out (n - length bytes) n ≡ bytes

-- What the samples are: records that write the two books, the bytes of the two tableaux, and those of a model, in which
-- names 0, 1 and 2 have the sets 3, 1 and 2. With 1 better than 0 they mean the sample model.
pub record Samples : Type 0 where
  pub book : (bk : Book) × ListGranted nodes empty NODES bk × ListGranted entries bk ENTRIES sample
  pub question : ListGranted entries sample (QUESTION ∷ []) unsatisfiable_sample
  pub closed : REFUTATION ≡ encoded refutation
  pub wrong : WRONG_STEPS ≡ encoded wrong_steps
  pub whole : HasModelLength sample_bytes
  pub names : (a : ℕ) → (interpretation_of sample_bytes).names a ≡ slice_index (3 ∷ 1 ∷ 2 ∷ []) a
  pub model : (f : Compatible (interpretation_of sample_bytes) (order_of_pairs (pairs 2 0))) × SampleModel (model_of (interpretation_of sample_bytes) (order_of_pairs (pairs 2 0)) f)

pub record Rows : Type 0 where
  pub samples : Samples
  -- the sample model with pairs 2, 0: two elements, and the set of each node
  pub shown : (before : Preference) (fill : Filling PairsFault) → FillPairs (pairs 2 0) before fill →
      Gives (ShowSample fill.left) (λ show. (show.answer ≡ Ok 2) × (show.left ≡ 3 ∷ 1 ∷ 2 ∷ 2 ∷ 1 ∷ 1 ∷ 1 ∷ []))
  -- the sample model with ranks 0, 0: entry 0 fails
  pub entry_fails : (before : Preference) (fill : Filling (BadLength 7)) → FillRanks (0 ∷ 0 ∷ []) before fill →
      Gives (ShowSample fill.left) (λ show. RefusedAt show_fault_number show_fault_place 18 0 show.answer)
  -- pairs 2, 1: the set of element 0 is not lawful, and the order stays unchanged
  pub unlawful : (before : Preference) →
      Gives (FillPairs (pairs 2 1) before) (λ fill. RefusedAt pairs_fault_number pairs_fault_place 15 0 fill.answer × (fill.left ≡ before))
  -- the refutation, in lists for 5 constraints and 1 split: it names 4 entries
  pub closed : (edges : ℕ) → Gives (Refute unsatisfiable_sample (lists 5 edges 1) refutation) (λ answer. IsOkAnd answer (λ used. member_count used ≡ 4))
  -- in lists for 4 constraints: step 6 finds no room
  pub list_full : (edges : ℕ) → Gives (Refute unsatisfiable_sample (lists 4 edges 1) refutation) (RefusedAt refute_fault_number refute_fault_place 11 6)
  -- the wrong hand-in, in lists for 7 constraints and 2 splits or more: no rule permits step 6
  pub no_rule : (ls : Lengths) → 7 ≤ ls.constraints → 2 ≤ ls.splits →
      Gives (Refute sample ls wrong_steps) (RefusedAt refute_fault_number refute_fault_place 10 6)
  -- seal writes 64 bytes, which are the sample book, sealed, and end in these eight
  pub sealed : (out : List ℕ) → 64 ≤ length out →
      Gives (SealSample out) (λ seal. (seal.answer ≡ Ok 64) × SealedAs (take 64 seal.left) sample × Ends (0x07 ∷ 0x00 ∷ 0x03 ∷ 0x00 ∷ 0x38 ∷ 0x00 ∷ 0x00 ∷ 0x00 ∷ []) 64 seal.left)
  -- node 3 is T(release), so T of it is out of place, and the book stays
  pub misplaced : Gives (OfferNode (record { kind = 8; a = 3; b = 0 })) (λ offer. RefusedAt offer_fault_number offer_fault_place 5 7 offer.answer × (offer.left ≡ sample))
