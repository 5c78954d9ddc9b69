-- Live entries that are false, and the lowest of them. Assumes nothing.
use Rattle.std.proofs.Common.{◌≡◌, ℕ, ◌<◌, ◌≤◌, Bool, true, false, List, length, Some, None, MatchOption, Option, ap, subst, inl, inr, arith}
use Rattle.std.proofs.lemmas.Bool.{cases_Bool, both_ways}
use Rattle.logic.specs.declared.records.Entry.{Entry}
use Rattle.logic.specs.declared.records.StoredEntry.{StoredEntry}
use Rattle.logic.specs.Books.{Book, stored_at}
use Rattle.logic.specs.Models.{Model}
use Rattle.logic.specs.Satisfaction.{Live, HoldsIn}
use Rattle.orders.specs.Masks.{Preference}
use Rattle.models.specs.Interpretations.{Interpretation}
use Rattle.models.specs.Fields.{FirstWithout}
use Rattle.models.specs.Meanings.{Compatible, model_of}
use Rattle.models.specs.NodeMasks.{TrueByMasks}
use Rattle.models.proofs.ConceptSets.{truth_of_masks}
use Rattle.judge.specs.NodeSets.{HasNodeSets}
use Rattle.judge.specs.ShowAnswers.{TrueIfLive, IsLiveAndFalse, FirstFalse, FindsFirstFalse}
use Rattle.judge.proofs.Agreeing.{live_within}
use Rattle.judge.proofs.ShowFill.{sets_everywhere}

module _ (bk : Book) (i : Interpretation) (list : List ℕ) where
  -- what a test of entry k tells
  abbrev pub IsFailingAt : Bool → ℕ → Type 0
  IsFailingAt test k = IsLiveAndFalse i list (stored_at bk k) test

  abbrev pub TrueAt : ℕ → Type 0
  TrueAt k = TrueIfLive i list (stored_at bk k)

  -- the first entry that the test picks out is the first that is live and not true
  pub lowest : (n : ℕ) (r : Option ℕ) → n ≡ length bk.entries → MatchOption r ((k : ℕ) → 0 ≤ k → k < n → IsFailingAt false k) (λ j. (0 ≤ j) × (j < n) × IsFailingAt true j × ((k : ℕ) → 0 ≤ k → k < j → IsFailingAt false k)) → FirstWithout TrueAt (length bk.entries) r
  lowest n None e none = λ k l. none k (omega arith) (omega arith)
  lowest n (Some k) e found = (omega (arith, found.1), found.2, λ j l. found.3 j (omega arith) l)

  module _ (o : Preference) (f : Compatible i o) (s : HasNodeSets (model_of i o f) bk list) where
    abbrev M : Model
    M = model_of i o f

    same : (e : Entry) → (TrueByMasks i list e → HoldsIn M bk e) × (HoldsIn M bk e → TrueByMasks i list e)
    same e = truth_of_masks i o f bk list (sets_everywhere M bk list s) e

    true_at : (k : ℕ) (e : Entry) → Live bk k e → TrueAt k → HoldsIn M bk e
    true_at k e live h = (same e).0 (subst (λ (l : StoredEntry). TrueByMasks i list l.entry) live (h (ap (λ (l : StoredEntry). l.live) live)))

    live_at : (k : ℕ) → (TrueAt k → ⊥) → (stored_at bk k).live ≡ true
    live_at k never = elim (cases_Bool (stored_at bk k).live) [
      | inl t ↦ t
      | inr e ↦ absurd (never (λ t. absurd (both_ways _ e t)))
    ]

    -- where the list has the sets, it is the lowest live entry that is false in the model
    first_in : (r : Option ℕ) → FirstWithout TrueAt (length bk.entries) r → FirstFalse M bk r
    first_in None none = λ j e live. true_at j e live (none j (live_within bk j e live))
    first_in (Some k) found = record {
      entry = (stored_at bk k).entry;
      live = λ t. record { entry = (stored_at bk k).entry; live = live_at k found.1 t };
      false_here = λ h. found.1 (λ _. (same (stored_at bk k).entry).1 h);
      true_before = λ j e before live. true_at j e live (found.2 j before);
    }

  pub finds : (r : Option ℕ) → FirstWithout TrueAt (length bk.entries) r → FindsFirstFalse bk i list r
  finds r h o f s = first_in o f s r h
