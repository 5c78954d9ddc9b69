-- Each answer of show is given wherever it is the first that fits. Assumes nothing.
use Rattle.std.proofs.Common.{◌≡◌, ℕ, ◌<◌, ◌≤◌, true, List, length, is_ok, Ok, Err, Result, sym, ap, subst, inl, inr, arith}
use Rattle.std.proofs.lemmas.Bool.{cases_order, false≢true}
use Rattle.logic.specs.Books.{Book}
use Rattle.logic.specs.Lawful.{WellFormed}
use Rattle.logic.specs.Models.{Model}
use Rattle.logic.specs.Satisfaction.{Satisfies}
use Rattle.logic.proofs.Likeness.{back, alike_satisfy}
use Rattle.orders.specs.Masks.{Preference}
use Rattle.models.specs.Interpretations.{Interpretation, interpretation_of}
use Rattle.models.specs.Fields.{Valid, LowestBad}
use Rattle.models.specs.Meanings.{Compatible, model_of}
use Rattle.models.specs.declared.faults.ViewFault.TheVariants.{BadLength, BadField}
use Rattle.models.specs.Answers.{HasModelLength}
use Rattle.judge.specs.declared.show_faults.ShowFault.{ShowFault}
use Rattle.judge.specs.declared.show_faults.ShowFault.TheVariants.{View, OrderSize, Fill, EntryFails}
use Rattle.judge.specs.ShowAnswers.{LowestFalse, MeanModel, ShowAnswer, ShowExact, ShowsModels, ShowPromise}

-- two lowest bad fields, and two lowest false entries, are one
same_field : (i : Interpretation) (k n : ℕ) → LowestBad i k → LowestBad i n → n ≡ k
same_field i k n b c = elim (cases_order n k) [
  | inl e ↦ e
  | inr (inl l) ↦ absurd (c.bad (b.lowest c.field (subst (λ j. j < k) (sym c.stands) l)))
  | inr (inr l) ↦ absurd (b.bad (c.lowest b.field (subst (λ j. j < n) (sym b.stands) l)))
]

same_entry : (m : Model) (bk : Book) (k n : ℕ) → LowestFalse m bk k → LowestFalse m bk n → n ≡ k
same_entry m bk k n b c = elim (cases_order n k) [
  | inl e ↦ e
  | inr (inl l) ↦ absurd (c.false_here (b.true_before n c.entry l c.live))
  | inr (inr l) ↦ absurd (b.false_here (c.true_before k b.entry l b.live))
]

module _ (bk : Book) (bs : List ℕ) (o : Preference) (list : List ℕ) where
  by_length : (r : Result ℕ ShowFault) → ShowAnswer bk bs o list r → (HasModelLength bs → ⊥) → r ≡ Err (View (BadLength (length bs)))
  by_length (Ok n) h short = absurd (short h.0.0)
  by_length (Err (View (BadLength n))) h short = ap (λ k. Err (View (BadLength k))) h.0.2
  by_length (Err (View (BadField n))) h short = absurd (short h.0.0)
  by_length (Err (OrderSize n)) h short = absurd (short h.0)
  by_length (Err (Fill n)) h short = absurd (short h.0.0)
  by_length (Err (EntryFails n)) h short = absurd (short h.0.0)

  by_field : (r : Result ℕ ShowFault) → ShowAnswer bk bs o list r → (k : ℕ) → HasModelLength bs → LowestBad (interpretation_of bs) k → r ≡ Err (View (BadField k))
  by_field (Ok n) h k whole b = absurd (b.bad (h.0.1.valid b.field))
  by_field (Err (View (BadLength n))) h k whole b = absurd (h.0.0 whole)
  by_field (Err (View (BadField n))) h k whole b = ap (λ k. Err (View (BadField k))) (same_field (interpretation_of bs) k n b h.0.2)
  by_field (Err (OrderSize n)) h k whole b = absurd (b.bad (h.1 b.field))
  by_field (Err (Fill n)) h k whole b = absurd (b.bad (h.0.1.valid b.field))
  by_field (Err (EntryFails n)) h k whole b = absurd (b.bad (h.0.1.valid b.field))

  by_size : (r : Result ℕ ShowFault) → ShowAnswer bk bs o list r → HasModelLength bs → Valid (interpretation_of bs) → (o.size ≡ (interpretation_of bs).size → ⊥) → r ≡ Err (OrderSize o.size)
  by_size (Ok n) h whole valid other = absurd (other h.0.1.sized)
  by_size (Err (View (BadLength n))) h whole valid other = absurd (h.0.0 whole)
  by_size (Err (View (BadField n))) h whole valid other = absurd (h.0.2.bad (valid h.0.2.field))
  by_size (Err (OrderSize n)) h whole valid other = ap (λ k. Err (OrderSize k)) h.4
  by_size (Err (Fill n)) h whole valid other = absurd (other h.0.1.sized)
  by_size (Err (EntryFails n)) h whole valid other = absurd (other h.0.1.sized)

  by_list : (r : Result ℕ ShowFault) → ShowAnswer bk bs o list r → MeanModel bs o → length list < length bk.nodes → r ≡ Err (Fill (record { 0 = length list }))
  by_list (Ok n) h f l = absurd (omega (arith, h.1))
  by_list (Err (View (BadLength n))) h f l = absurd (h.0.0 f.0)
  by_list (Err (View (BadField n))) h f l = absurd (h.0.2.bad (f.1.valid h.0.2.field))
  by_list (Err (OrderSize n)) h f l = absurd (h.2 f.1.sized)
  by_list (Err (Fill n)) h f l = ap (λ k. Err (Fill (record { 0 = k }))) h.3
  by_list (Err (EntryFails n)) h f l = absurd (omega (arith, h.1))

  by_entry : (r : Result ℕ ShowFault) → ShowAnswer bk bs o list r → (i : ℕ) → HasModelLength bs → (f : Compatible (interpretation_of bs) o) → length bk.nodes ≤ length list → LowestFalse (model_of (interpretation_of bs) o f) bk i → r ≡ Err (EntryFails i)
  by_entry (Ok n) h i whole f l w = absurd (w.false_here ((h.3 f).0 i w.entry w.live))
  by_entry (Err (View (BadLength n))) h i whole f l w = absurd (h.0.0 whole)
  by_entry (Err (View (BadField n))) h i whole f l w = absurd (h.0.2.bad (f.valid h.0.2.field))
  by_entry (Err (OrderSize n)) h i whole f l w = absurd (h.2 f.sized)
  by_entry (Err (Fill n)) h i whole f l w = absurd (omega (arith, h.1))
  by_entry (Err (EntryFails n)) h i whole f l w = ap (λ k. Err (EntryFails k)) (same_entry (model_of (interpretation_of bs) o f) bk i n w (h.3 f).0)

  by_model : (r : Result ℕ ShowFault) → ShowAnswer bk bs o list r → HasModelLength bs → (f : Compatible (interpretation_of bs) o) → length bk.nodes ≤ length list → Satisfies (model_of (interpretation_of bs) o f) bk → r ≡ Ok (interpretation_of bs).size
  by_model (Ok n) h whole f l s = ap Ok h.2
  by_model (Err (View (BadLength n))) h whole f l s = absurd (h.0.0 whole)
  by_model (Err (View (BadField n))) h whole f l s = absurd (h.0.2.bad (f.valid h.0.2.field))
  by_model (Err (OrderSize n)) h whole f l s = absurd (h.2 f.sized)
  by_model (Err (Fill n)) h whole f l s = absurd (omega (arith, h.1))
  by_model (Err (EntryFails n)) h whole f l s = let w = (h.3 f).0 in absurd (w.false_here (s n w.entry w.live))

  exact : (r : Result ℕ ShowFault) → ShowAnswer bk bs o list r → ShowExact bk bs o (length list) r
  exact r h = record {
    bad_length = by_length r h;
    bad_field = by_field r h;
    order_size = by_size r h;
    list_too_short = by_list r h;
    entry_fails = by_entry r h;
    accepted = by_model r h;
  }

  satisfied : (r : Result ℕ ShowFault) → ShowAnswer bk bs o list r → is_ok r ≡ true → (f : Compatible (interpretation_of bs) o) → Satisfies (model_of (interpretation_of bs) o f) bk
  satisfied (Ok n) h t f = (h.3 f).0
  satisfied (Err e) h t f = absurd (false≢true t)

  shows_models : WellFormed bk → (r : Result ℕ ShowFault) → ShowAnswer bk bs o list r → ShowsModels bk bs o (length list) r
  shows_models lawful r h m whole f a room = (
    λ t. alike_satisfy (model_of (interpretation_of bs) o f) m (back m (model_of (interpretation_of bs) o f) a) bk lawful (satisfied r h t f),
    λ s. ap is_ok (by_model r h whole f room (alike_satisfy m (model_of (interpretation_of bs) o f) a bk lawful s)),
  )

  -- so what each answer means is the whole promise
  pub promised : WellFormed bk → (r : Result ℕ ShowFault) (len : ℕ) → length list ≡ len → ShowAnswer bk bs o list r → ShowPromise bk bs o len list r
  promised lawful r len e h = record {
    answer = h;
    exact = subst (λ n. ShowExact bk bs o n r) e (exact r h);
    models = subst (λ n. ShowsModels bk bs o n r) e (shows_models lawful r h);
  }
