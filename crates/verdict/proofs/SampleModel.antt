-- The model that the sample bytes mean: which elements are in each concept of the sample book, and which of its entries
-- are true. Assumes nothing.
use Rattle.std.proofs.Common.{◌≡◌, ℕ, zero, suc, ◌<◌, ◌≤◌, Bool, true, false, ◌&&◌, eqb, [], ◌∷◌, get_or, Decides, refl, ap, ◌∙◌, subst, arith, lit<, lit≤}
use Rattle.std.proofs.Math.Bool.{and-false}
use Rattle.std.proofs.lemmas.Bool.{both_ways, false≢true}
use Rattle.std.proofs.lemmas.List.{get_or_past}
use Rattle.logic.specs.declared.records.Entry.TheVariants.{Inclusion, Fact}
use Rattle.logic.specs.Concepts.{Concept, atom, not, and, typical}
use Rattle.logic.specs.Books.{concept}
use Rattle.logic.specs.Models.{Model, Sat}
use Rattle.logic.specs.Satisfaction.{HoldsIn, Satisfies}
use Rattle.logic.specs.Samples.{sample, SampleModel}
use Rattle.orders.specs.Masks.{has, Within, Preference}
use Rattle.orders.proofs.MaskBits.{has-zero, below_within}
use Rattle.models.specs.Fields.{size, name, role, individual, Valid}
use Rattle.models.specs.Meanings.{Compatible, model_of}
use Rattle.models.specs.Extensions.{Extension}
use Rattle.judge.specs.NodeSets.{HasNodeSets}
use Rattle.judge.specs.ShowAnswers.{LowestFalse}
use Rattle.verdict.proofs.SampleBytes.{sample_names, sample_interpretation}

name_within : (a : ℕ) → Within 2 (sample_names a)
name_within zero = below_within 2 3 (lit< tt)
name_within (suc zero) = below_within 2 1 (lit< tt)
name_within (suc (suc zero)) = below_within 2 2 (lit< tt)
name_within (suc (suc (suc a))) = below_within 2 0 (lit< tt)

pub sample_valid : Valid sample_interpretation
sample_valid size = (lit≤ tt, lit≤ tt)
sample_valid (name a) = name_within a
sample_valid (role r x) = (below_within 2 0 (lit< tt), λ h. refl)
sample_valid (individual a) = lit< tt

module _ (o : Preference) (f : Compatible sample_interpretation o) where
  abbrev M : Model
  M = model_of sample_interpretation o f

  -- the set of a concept, by each of the two elements
  two : (c : Concept) (mask : ℕ) → mask < 4 → Decides (has mask 0) (Sat M c 0) → Decides (has mask 1) (Sat M c 1) → Extension M c mask
  two c mask few d e zero = (λ t. (lit< tt, d.0 t), λ p. d.1 p.1)
  two c mask few d e (suc zero) = (λ t. (lit< tt, e.0 t), λ p. e.1 p.1)
  two c mask few d e (suc (suc x)) = (λ t. absurd (omega (arith, below_within 2 mask few (suc (suc x)) t)), λ p. absurd (omega (arith, p.0)))

  is : (b : Bool) → Decides b (b ≡ true)
  is b = (λ t. t, λ t. t)

  release : Extension M (atom 0) 3
  release = two (atom 0) 3 (lit< tt) (is true) (is true)

  yanked : Extension M (atom 1) 1
  yanked = two (atom 1) 1 (lit< tt) (is true) (is false)

  paired : Extension M (atom 2) 2
  paired = two (atom 2) 2 (lit< tt) (is false) (is true)

  both : Extension M (and (atom 0) (atom 1)) 1
  both = two (and (atom 0) (atom 1)) 1 (lit< tt) (λ t. (refl, refl), λ p. refl) (λ t. absurd (false≢true t), λ p. p.1)

  -- element 0 is the only yanked release
  typical_both : Extension M (typical (and (atom 0) (atom 1))) 1
  typical_both = two (typical (and (atom 0) (atom 1))) 1 (lit< tt) (λ t. ((refl, refl), alone), λ p. refl) (λ t. absurd (false≢true t), λ p. p.0.1)
    where
      alone : (y : ℕ) → y < 2 → has (o.better 0) y ≡ true → (has 3 y ≡ true) × (has 1 y ≡ true) → ⊥
      alone zero h b s = both_ways _ (f.strict.irreflexive 0) b
      alone (suc zero) h b s = false≢true s.1
      alone (suc (suc y)) h b s = omega arith

  unpaired : Extension M (not (atom 2)) 1
  unpaired = two (not (atom 2)) 1 (lit< tt) (λ t p. false≢true p, λ n. refl) (λ t. absurd (false≢true t), λ n. absurd (n refl))

  -- where node 3, T(release), has this set
  module _ (mask : ℕ) (third : Extension M (typical (atom 0)) mask) where
    sets_at : (i : ℕ) → i < 7 → Extension M (concept sample i) (get_or (3 ∷ 1 ∷ 2 ∷ mask ∷ 1 ∷ 1 ∷ 1 ∷ []) i 0)
    sets_at zero h = release
    sets_at (suc zero) h = yanked
    sets_at (suc (suc zero)) h = paired
    sets_at (suc (suc (suc zero))) h = third
    sets_at (suc (suc (suc (suc zero)))) h = both
    sets_at (suc (suc (suc (suc (suc zero))))) h = typical_both
    sets_at (suc (suc (suc (suc (suc (suc zero)))))) h = unpaired
    sets_at (suc (suc (suc (suc (suc (suc (suc i))))))) h = absurd (omega arith)

    past : (i : ℕ) → 7 ≤ i → get_or (3 ∷ 1 ∷ 2 ∷ mask ∷ 1 ∷ 1 ∷ 1 ∷ []) i 0 ≡ 0
    past i h = get_or_past (3 ∷ 1 ∷ 2 ∷ mask ∷ 1 ∷ 1 ∷ 1 ∷ []) i 0 h

    pub sample_sets : HasNodeSets M sample (3 ∷ 1 ∷ 2 ∷ mask ∷ 1 ∷ 1 ∷ 1 ∷ [])
    sample_sets = record { sets = sets_at; rest = past }

  -- where 1 is better than 0
  module _ (better : (x y : ℕ) → has (o.better x) y ≡ (eqb y 1 && eqb x 0)) where
    pub is_sample_model : SampleModel M
    is_sample_model = record {
      size = refl;
      release = (refl, refl);
      yanked = (refl, refl);
      paired = (refl, refl);
      roles = λ r x y. has-zero y;
      individuals = λ a. refl;
      better = λ y x. better x y;
    }

    -- a release that is better than 0 is 1, and none is better than 1
    pub typical_release : Extension M (typical (atom 0)) 2
    typical_release = two (typical (atom 0)) 2 (lit< tt) (λ t. absurd (false≢true t), λ p. absurd (p.1 1 (lit< tt) (better 0 1) refl)) (λ t. (refl, λ y h b s. both_ways _ (better 1 y ∙ and-false (eqb y 1)) b), λ p. refl)

    entry_0 : HoldsIn M sample (Inclusion 3 2)
    entry_0 x h s = ((paired x).0 ((typical_release x).1 (h, s))).1

    entry_1 : HoldsIn M sample (Inclusion 5 6)
    entry_1 x h s = ((unpaired x).0 ((typical_both x).1 (h, s))).1

    entry_2 : HoldsIn M sample (Fact 0 5)
    entry_2 = ((typical_both 0).0 refl).1

    pub satisfied : Satisfies M sample
    satisfied zero e live = subst (HoldsIn M sample) (ap (λ l. l.entry) live) entry_0
    satisfied (suc zero) e live = subst (HoldsIn M sample) (ap (λ l. l.entry) live) entry_1
    satisfied (suc (suc zero)) e live = subst (HoldsIn M sample) (ap (λ l. l.entry) live) entry_2
    satisfied (suc (suc (suc i))) e live = absurd (false≢true (ap (λ l. l.live) live))

  -- where neither is better
  module _ (none : (x y : ℕ) → has (o.better x) y ≡ false) where
    pub every_release : Extension M (typical (atom 0)) 3
    every_release = two (typical (atom 0)) 3 (lit< tt) (λ t. (refl, λ y h b s. both_ways _ (none 0 y) b), λ p. refl) (λ t. (refl, λ y h b s. both_ways _ (none 1 y) b), λ p. refl)

    -- element 0 is a typical release, and is not paired
    entry_0_false : HoldsIn M sample (Inclusion 3 2) → ⊥
    entry_0_false h = false≢true (h 0 (lit< tt) ((every_release 0).0 refl).1)

    pub entry_0_fails : LowestFalse M sample 0
    entry_0_fails = record { entry = Inclusion 3 2; live = refl; false_here = entry_0_false; true_before = λ j e h l. absurd (omega arith) }
