-- The sample books: they are lawful, the first has its model, and the second its closed tableau. The
-- wrong hand-in stops at its last step. Assumes nothing.
use Rattle.std.proofs.Common.{◌≡◌, ℕ, zero, suc, ◌<◌, Bool, true, false, ◌&&◌, T, eqb, ltb, leb, List, length, get_or, refl, ap, subst, arith, lit<, lit≤}
use Rattle.std.proofs.lemmas.Bool.{false≢true}
use Rattle.std.proofs.lemmas.Bool.Decides.{nat_tests}
use Rattle.logic.specs.declared.records.Entry.TheVariants.{Inclusion, Fact}
use Rattle.logic.specs.Concepts.{concepts}
use Rattle.logic.specs.Books.{node_at}
use Rattle.logic.specs.Lawful.{node_well_formed, node_typicality_allowed, Lawful}
use Rattle.logic.specs.Models.{Model}
use Rattle.logic.specs.Satisfaction.{HoldsIn, Satisfies}
use Rattle.logic.specs.Places.{At}
use Rattle.logic.specs.Branches.{Branch, start}
use Rattle.logic.specs.Rules.{step, fact, typical_holds, and_holds, not_holds, inclusion, typical_fails, Closes, holds_and_fails, bars_and_admits, NoRule}
use Rattle.logic.specs.Tableaux.{Closed, close, extend, split}
use Rattle.logic.specs.Limits.{Lengths, LongEnough}
use Rattle.logic.specs.Samples.{sample, unsatisfiable_sample, SampleModel}
use Rattle.logic.specs.Examples.{second_side, SampleRefutation, WrongHandIn, Examples}
use Rattle.logic.proofs.Lawfulness.{lawful_with_stored}

-- what stands at a place of a list that is written out
pub there : {A : Type 0} {xs : List A} {i : ℕ} {x : A} → T (ltb i (length xs)) → get_or xs i x ≡ x → At xs i x
there within is = record { within = lit< within; is = is }

sample_nodes : (i : ℕ) → i < 7 → (node_well_formed i (node_at sample i) ≡ true) × (node_typicality_allowed (concepts sample.nodes) (node_at sample i) ≡ true)
sample_nodes zero h = (refl, refl)
sample_nodes (suc zero) h = (refl, refl)
sample_nodes (suc (suc zero)) h = (refl, refl)
sample_nodes (suc (suc (suc zero))) h = (refl, refl)
sample_nodes (suc (suc (suc (suc zero)))) h = (refl, refl)
sample_nodes (suc (suc (suc (suc (suc zero))))) h = (refl, refl)
sample_nodes (suc (suc (suc (suc (suc (suc zero)))))) h = (refl, refl)
sample_nodes (suc (suc (suc (suc (suc (suc (suc i))))))) h = absurd (omega arith)

sample_lawful : Lawful sample
sample_lawful =
    record {
      well_formed = record { few_nodes = lit≤ tt; few_entries = lit≤ tt; nodes = λ i h. (sample_nodes i h).0; entries = (refl, (refl, (refl, tt))) };
      in_place = record { nodes = λ i h. (sample_nodes i h).1; entries = (refl, (refl, (refl, tt))) };
    }

refuted_lawful : Lawful unsatisfiable_sample
refuted_lawful = lawful_with_stored sample sample_lawful (record { entry = Fact 0 3; live = true }) (lit< tt) refl refl

-- the model: names 0, 1 and 2 have the elements {0, 1}, {0} and {1}, and 1 is better than 0
atoms : ℕ → ℕ → Bool
atoms zero x = true
atoms (suc zero) x = eqb x 0
atoms (suc (suc a)) x = eqb x 1

better : ℕ → ℕ → Bool
better y x = eqb y 1 && eqb x 0

irreflexive : (x : ℕ) → x < 2 → better x x ≡ false
unfolding better
irreflexive x h = grind (arith, nat_tests)

transitive : (x y z : ℕ) → x < 2 → y < 2 → z < 2 → better z y ≡ true → better y x ≡ true → better z x ≡ true
unfolding better
transitive x y z hx hy hz s t = grind (arith, nat_tests)

model : Model
model =
    record {
      size = 2;
      inhabited = lit≤ tt;
      atoms = atoms;
      roles = λ r x y. false;
      individual = λ a. 0;
      individual_within = λ a h. lit< tt;
      better = better;
      irreflexive = irreflexive;
      transitive = transitive;
    }

is_sample_model : SampleModel model
unfolding model atoms better
is_sample_model =
    record { size = refl; release = (refl, refl); yanked = (refl, refl); paired = (refl, refl); roles = λ r x y. refl; individuals = λ a. refl; better = λ y x. refl }

-- element 0 is no typical release, since 1 is better, and 1 is paired
entry_0 : HoldsIn model sample (Inclusion 3 2)
unfolding model atoms better
entry_0 zero h s = absurd (s.1 1 (lit< tt) refl refl)
entry_0 (suc zero) h s = refl
entry_0 (suc (suc x)) h s = absurd (omega arith)

-- element 0 is not paired, and 1 is not yanked
entry_1 : HoldsIn model sample (Inclusion 5 6)
unfolding model atoms better
entry_1 zero h s p = false≢true p
entry_1 (suc zero) h s p = false≢true s.0.1
entry_1 (suc (suc x)) h s p = omega arith

-- element 0 is a yanked release, and the one better element is not yanked
entry_2 : HoldsIn model sample (Fact 0 5)
unfolding model atoms better
entry_2 = ((refl, refl), above)
  where
    above : (y : ℕ) → y < 2 → (eqb y 1 && true) ≡ true → (true ≡ true) × (eqb y 0 ≡ true) → ⊥
    above y h t s = let z : ◌≡◌ {A = ℕ} 0 1 = grind (arith, nat_tests) in omega arith

satisfied : Satisfies model sample
satisfied zero e live = subst (HoldsIn model sample) (ap (λ l. l.entry) live) entry_0
satisfied (suc zero) e live = subst (HoldsIn model sample) (ap (λ l. l.entry) live) entry_1
satisfied (suc (suc zero)) e live = subst (HoldsIn model sample) (ap (λ l. l.entry) live) entry_2
satisfied (suc (suc (suc i))) e live = absurd (false≢true (ap (λ l. l.live) live))

tableau : Closed unsatisfiable_sample start
tableau =
    extend (fact {a = 2} {x = 0} {c = 5} refl)
    (extend (fact {a = 3} {x = 0} {c = 3} refl)
    (split (inclusion {a = 0} {x = 0} {c = 3} {d = 2} refl (lit< tt))
    (close (holds_and_fails {a = 1} {b = 2} {x = 0} {n = 3} (there tt refl) (there tt refl)))
    (split (inclusion {a = 1} {x = 0} {c = 5} {d = 6} refl (lit< tt))
    (close (holds_and_fails {a = 0} {b = 3} {x = 0} {n = 5} (there tt refl) (there tt refl)))
    (extend (not_holds {a = 3} {x = 0} {n = 6} {c = 2} (there tt refl) refl)
    (close (holds_and_fails {a = 2} {b = 4} {x = 0} {n = 2} (there tt refl) (there tt refl)))))))

-- lists that take a branch that is written out
enough : {ls : Lengths} {k : ℕ} {br : Branch} → T (leb (length br.constraints) ls.constraints) → T (leb (length br.edges) ls.edges) → T (leb k ls.splits) → LongEnough ls k br
enough c e s = record { constraints = lit≤ c; edges = lit≤ e; splits = lit≤ s }

refutation : SampleRefutation
unfolding tableau
refutation =
    record {
      tableau = tableau;
      written = refl;
      four = refl;
      limits = record { steps = lit≤ tt; labels = (lit≤ tt, (lit≤ tt, (lit≤ tt, tt, lit≤ tt, (lit≤ tt, tt, lit≤ tt, (lit≤ tt, tt))))) };
      fits = (enough tt tt tt, (enough tt tt tt, (enough tt tt tt, tt, enough tt tt tt, (enough tt tt tt, tt, enough tt tt tt, (enough tt tt tt, tt)))));
    }

-- constraint 2 is not of form holds; where it bars the node that constraint 6 admits, 4 is 0
no_clash : Closes sample second_side (step 12 2 6) → ⊥
no_clash (holds_and_fails p q) = let f = ap (λ c. c.form) p.is in let z : ◌≡◌ {A = ℕ} 0 1 = cc in omega arith
no_clash (bars_and_admits p q) =
    let f = ap (λ c. c.node) p.is in
    let g = ap (λ c. c.node) q.is in
    omega (arith, f, g)

last_step : NoRule sample second_side (step 12 2 6)
last_step = record { extends = λ b r. elim r [ ]; splits = λ l k r. elim r [ ]; closes = no_clash }

wrong : WrongHandIn
wrong =
    record {
      step_0 = fact {a = 2} {x = 0} {c = 5} refl;
      step_1 = typical_holds {a = 0} {x = 0} {n = 5} {c = 4} (there tt refl) refl;
      step_2 = and_holds {a = 1} {x = 0} {n = 4} {c = 0} {d = 1} (there tt refl) refl;
      step_3 = inclusion {a = 0} {x = 0} {c = 3} {d = 2} refl (lit< tt);
      step_4 = typical_fails {a = 5} {x = 0} {n = 3} {c = 0} (there tt refl) refl;
      step_5 = holds_and_fails {a = 3} {b = 6} {x = 0} {n = 0} (there tt refl) (there tt refl);
      bars = there tt refl;
      admits = there tt refl;
      step_6 = last_step;
    }

pub examples : Examples
examples =
    record {
      sample_lawful = sample_lawful;
      refuted_lawful = refuted_lawful;
      model = (model, is_sample_model, satisfied);
      refutation = refutation;
      wrong = wrong;
    }
