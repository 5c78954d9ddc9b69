-- What show answers to the sample book and the sample model. Assumes nothing.
use Rattle.std.proofs.Common.{◌≡◌, ℕ, List, [], ◌∷◌, length, get_or, Ok, Err, Result, refl, ap, ◌∙◌, sym, subst, inl, inr, lit≤}
use Rattle.std.proofs.lemmas.List.{ext_get_or}
use Rattle.std.specs.Bool.{one_answer}
use Rattle.std.proofs.lemmas.Bool.{cases_lt}
use Rattle.logic.specs.Books.{Book}
use Rattle.logic.specs.Models.{Model}
use Rattle.logic.specs.Satisfaction.{Satisfies}
use Rattle.logic.specs.Samples.{sample, SampleModel}
use Rattle.logic.proofs.Examples.{examples}
use Rattle.orders.specs.Masks.{Preference, Strict}
use Rattle.orders.proofs.MaskBits.{same_bits}
use Rattle.models.specs.Interpretations.{interpretation_of}
use Rattle.models.specs.Meanings.{Compatible, model_of}
use Rattle.models.specs.Samples.{sample_bytes}
use Rattle.judge.specs.declared.show_faults.ShowFault.{ShowFault}
use Rattle.judge.specs.declared.show_faults.ShowFault.TheVariants.{EntryFails}
use Rattle.judge.specs.ShowFaults.{show_fault_number, show_fault_place}
use Rattle.judge.specs.NodeSets.{HasNodeSets}
use Rattle.judge.specs.ShowAnswers.{LowestFalse, ShowAnswer, ShowPromise}
use Rattle.judge.proofs.ShowExact.{promised}
use Rattle.verdict.specs.Rows.{Gives, RefusedAt, ShowSample}
use Rattle.verdict.proofs.SampleBytes.{sample_interpretation, sample_whole, sample_said}
use Rattle.verdict.proofs.SampleOrders.{one_better, better_at, one_strict, neither, none_better, neither_strict}
use Rattle.verdict.proofs.SampleModel.{sample_valid, sample_sets, is_sample_model, typical_release, satisfied, every_release, entry_0_fails}

-- what holds of every model of the sample interpretation and an order, holds of what the bytes mean with it
of_bytes : (o : Preference) (P : Model → Type 0) → ((f : Compatible sample_interpretation o) → P (model_of sample_interpretation o f)) → (f : Compatible (interpretation_of sample_bytes) o) → P (model_of (interpretation_of sample_bytes) o f)
of_bytes o P h = subst (λ i. (f : Compatible i o) → P (model_of i o f)) (sym sample_said) h

fits : (o : Preference) → Strict o → o.size ≡ 2 → Compatible (interpretation_of sample_bytes) o
fits o strict two = subst (λ i. Compatible i o) (sym sample_said) (record { valid = sample_valid; strict = strict; sized = two })

-- the sets of the nodes are determined
same_sets : (m : Model) (bk : Book) (list other : List ℕ) → length list ≡ length other → HasNodeSets m bk list → HasNodeSets m bk other → list ≡ other
same_sets m bk list other long s t = ext_get_or 0 list other long (λ i h. at i)
  where
    at : (i : ℕ) → get_or list i 0 ≡ get_or other i 0
    at i = elim (cases_lt i (length bk.nodes)) [
      | inl l ↦ same_bits _ _ (λ x. one_answer _ _ (s.sets i l x) (t.sets i l x))
      | inr l ↦ s.rest i l ∙ sym (t.rest i l)
    ]

-- the set of each node, where node 3 has this set
abbrev listed : ℕ → List ℕ
listed third = 3 ∷ 1 ∷ 2 ∷ third ∷ 1 ∷ 1 ∷ 1 ∷ []

-- with pairs 2, 0
model_means : (f : Compatible (interpretation_of sample_bytes) one_better) → SampleModel (model_of (interpretation_of sample_bytes) one_better f)
model_means = of_bytes one_better SampleModel (λ f. is_sample_model one_better f better_at)

satisfies : (f : Compatible (interpretation_of sample_bytes) one_better) → Satisfies (model_of (interpretation_of sample_bytes) one_better f) sample
satisfies = of_bytes one_better (λ m. Satisfies m sample) (λ f. satisfied one_better f better_at)

has_sets : (f : Compatible (interpretation_of sample_bytes) one_better) → HasNodeSets (model_of (interpretation_of sample_bytes) one_better f) sample (listed 2)
has_sets = of_bytes one_better (λ m. HasNodeSets m sample (listed 2)) (λ f. sample_sets one_better f 2 (typical_release one_better f better_at))

shown_answer : ShowAnswer sample sample_bytes one_better (listed 2) (Ok 2)
shown_answer = ((sample_whole, fits one_better one_strict refl), lit≤ tt, sym (ap (λ i. i.size) sample_said), λ f. (satisfies f, has_sets f))

shown_every : (r : Result ℕ ShowFault) (list : List ℕ) → length list ≡ 7 → ShowPromise sample sample_bytes one_better 7 list r → (r ≡ Ok 2) × (list ≡ listed 2)
shown_every r list long p =
    let f = fits one_better one_strict refl in
    let e : r ≡ Ok 2 = p.exact.accepted sample_whole f (lit≤ tt) (satisfies f) ∙ ap (λ i. Ok i.size) sample_said in
    let a = subst (ShowAnswer sample sample_bytes one_better list) e p.answer in
    (e, same_sets (model_of (interpretation_of sample_bytes) one_better f) sample list (listed 2) long (a.3 f).1 (has_sets f))

pub shown : (o : Preference) → o ≡ one_better → Gives (ShowSample o) (λ show. (show.answer ≡ Ok 2) × (show.left ≡ listed 2))
shown o e = subst (λ o. Gives (ShowSample o) (λ show. (show.answer ≡ Ok 2) × (show.left ≡ listed 2))) (sym e) (record {
  some = (record { answer = Ok 2; left = listed 2 }, (refl, promised sample sample_bytes one_better (listed 2) examples.sample_lawful.well_formed (Ok 2) 7 refl shown_answer));
  every = λ show h. shown_every show.answer show.left h.0 h.1;
})

-- with ranks 0, 0
fails : (f : Compatible (interpretation_of sample_bytes) neither) → LowestFalse (model_of (interpretation_of sample_bytes) neither f) sample 0
fails = of_bytes neither (λ m. LowestFalse m sample 0) (λ f. entry_0_fails neither f none_better)

other_sets : (f : Compatible (interpretation_of sample_bytes) neither) → HasNodeSets (model_of (interpretation_of sample_bytes) neither f) sample (listed 3)
other_sets = of_bytes neither (λ m. HasNodeSets m sample (listed 3)) (λ f. sample_sets neither f 3 (every_release neither f none_better))

fails_answer : ShowAnswer sample sample_bytes neither (listed 3) (Err (EntryFails 0))
fails_answer = ((sample_whole, fits neither neither_strict refl), lit≤ tt, refl, λ f. (fails f, other_sets f))

fails_every : (r : Result ℕ ShowFault) (list : List ℕ) → length list ≡ 7 → ShowPromise sample sample_bytes neither 7 list r → RefusedAt show_fault_number show_fault_place 18 0 r
fails_every r list long p =
    let f = fits neither neither_strict refl in
    let e : r ≡ Err (EntryFails 0) = p.exact.entry_fails 0 sample_whole f (lit≤ tt) (fails f) in
    subst (RefusedAt show_fault_number show_fault_place 18 0) (sym e) (refl, refl)

pub entry_fails : (o : Preference) → o ≡ neither → Gives (ShowSample o) (λ show. RefusedAt show_fault_number show_fault_place 18 0 show.answer)
entry_fails o e = subst (λ o. Gives (ShowSample o) (λ show. RefusedAt show_fault_number show_fault_place 18 0 show.answer)) (sym e) (record {
  some = (record { answer = Err (EntryFails 0); left = listed 3 }, (refl, promised sample sample_bytes neither (listed 3) examples.sample_lawful.well_formed (Err (EntryFails 0)) 7 refl fails_answer));
  every = λ show h. fails_every show.answer show.left h.0 h.1;
})

pub sample_model : (f : Compatible (interpretation_of sample_bytes) one_better) × SampleModel (model_of (interpretation_of sample_bytes) one_better f)
sample_model = let f = fits one_better one_strict refl in (f, model_means f)
