-- What refute answers to the two tableaux of the sample books. Assumes nothing.
use Rattle.std.proofs.Common.{◌≡◌, ℕ, ◌≤◌, T, leb, List, [], ◌∷◌, length, take, Ok, Err, Result, refl, ap, ◌∙◌, sym, subst, arith, lit<, lit≤}
use Rattle.std.specs.Result.{IsOkAnd}
use Rattle.logic.specs.declared.tableau.Form.TheVariants.{Holds}
use Rattle.logic.specs.declared.tableau.Step.{Step}
use Rattle.logic.specs.Books.{Book}
use Rattle.logic.specs.Lawful.{WellFormed}
use Rattle.logic.specs.Branches.{Branch, start, constraint, with}
use Rattle.logic.specs.Rules.{step, fact, not_holds, inclusion, holds_and_fails}
use Rattle.logic.specs.Tableaux.{writing, named_count}
use Rattle.logic.specs.Limits.{Lengths, FitsLists}
use Rattle.logic.specs.Samples.{sample, unsatisfiable_sample, refutation, wrong_steps}
use Rattle.logic.specs.Examples.{after_and, second_side}
use Rattle.logic.proofs.Examples.{examples, there}
use Rattle.logic.proofs.Fitting.{longer_lists_fit}
use Rattle.judge.specs.declared.faults.RefuteFault.{RefuteFault}
use Rattle.judge.specs.declared.faults.RefuteFault.TheVariants.{AtStep}
use Rattle.judge.specs.declared.step_fault.StepFault.TheVariants.{Misfit, Full}
use Rattle.judge.specs.declared.used.Used.{Used}
use Rattle.judge.specs.Faults.{refute_fault_number, refute_fault_place}
use Rattle.judge.specs.Steps.{decoded, encoded, WholeSteps}
use Rattle.judge.specs.Members.{member_count, marks_of}
use Rattle.judge.specs.Progress.{Room, Underway, begun, extended, divided, resumed, Finished}
use Rattle.judge.specs.Reasons.{branch_full, StepsReason, by_steps}
use Rattle.judge.specs.Refutations.{Refutation}
use Rattle.judge.proofs.Answering.{answer_steps}
use Rattle.judge.proofs.Trees.{closed_finished}
use Rattle.verdict.specs.Rows.{Gives, RefusedAt, Refute, lists}

formed : WellFormed unsatisfiable_sample
formed = examples.refuted_lawful.well_formed

-- the bytes are read back
refutation_read : decoded (encoded refutation) ≡ refutation
refutation_read = refl

wrong_read : decoded (encoded wrong_steps) ≡ wrong_steps
wrong_read = refl

refutation_whole : WholeSteps (encoded refutation)
refutation_whole = record { whole = refl; few = lit≤ tt }

wrong_whole : WholeSteps (encoded wrong_steps)
wrong_whole = record { whole = refl; few = lit≤ tt }

-- steps that are halted, and the refusal
module _ (bk : Book) (formed : WellFormed bk) (ls : Lengths) (ss : List Step) (whole : WholeSteps (encoded ss)) (f : RefuteFault) (halted : StepsReason bk ls (decoded (encoded ss)) f) where
  refused_every : (r : Result Used RefuteFault) → Refute bk ls ss r → RefusedAt refute_fault_number refute_fault_place (refute_fault_number f) (refute_fault_place f) r
  refused_every r h =
      subst (RefusedAt refute_fault_number refute_fault_place (refute_fault_number f) (refute_fault_place f)) (sym (h.refuses f (by_steps whole halted))) (refl, refl)

  refused : Gives (Refute bk ls ss) (RefusedAt refute_fault_number refute_fault_place (refute_fault_number f) (refute_fault_place f))
  refused = record { some = (Err f, answer_steps bk ls (encoded ss) formed whole (Err f) halted); every = refused_every }

written : writing examples.refutation.tableau ≡ decoded (encoded refutation)
written = examples.refutation.written ∙ sym refutation_read

four : named_count (decoded (encoded refutation)) ≡ 4
four = ap named_count (sym written) ∙ examples.refutation.four

-- the set of the entries that it names
abbrev marked : Used
marked = record { marks = marks_of (decoded (encoded refutation)) }

module _ (edges : ℕ) where
  fits : FitsLists (lists 5 edges 1) examples.refutation.tableau
  fits =
      longer_lists_fit unsatisfiable_sample start examples.refutation.tableau (lists 5 0 1) (lists 5 edges 1) (record { constraints = lit≤ tt; edges = omega arith; splits = lit≤ tt }) examples.refutation.fits

  refutes : Refutation unsatisfiable_sample (lists 5 edges 1) (encoded refutation)
  refutes = record {
    tableau = examples.refutation.tableau;
    whole = refutation_whole;
    written = written;
    limits = examples.refutation.limits;
    fits = fits;
  }

  answer : Refute unsatisfiable_sample (lists 5 edges 1) refutation (Ok marked)
  answer =
      answer_steps unsatisfiable_sample (lists 5 edges 1) (encoded refutation) formed refutation_whole (Ok marked)
      (subst (Finished unsatisfiable_sample (lists 5 edges 1)) written (closed_finished unsatisfiable_sample (lists 5 edges 1) examples.refutation.tableau fits examples.refutation.limits.labels), refl)

  closed_every : (r : Result Used RefuteFault) → Refute unsatisfiable_sample (lists 5 edges 1) refutation r → IsOkAnd r (λ u. member_count u ≡ 4)
  closed_every r h =
      let a = h.accepts refutes in
      subst (λ r. IsOkAnd r (λ u. member_count u ≡ 4)) (sym a.1) ((h.accepted a.0 a.1).count ∙ four)

  pub closed : Gives (Refute unsatisfiable_sample (lists 5 edges 1) refutation) (λ r. IsOkAnd r (λ u. member_count u ≡ 4))
  closed = record { some = (Ok marked, answer); every = closed_every }

-- the branches of the refutation: each after a step, or next after a closing one
abbrev after_1 : Branch
after_1 = with (with start (constraint 0 Holds 5 ∷ []) []) (constraint 0 Holds 3 ∷ []) []

abbrev after_3 : Branch
after_3 = with after_1 (constraint 0 Holds 2 ∷ []) []

abbrev after_5 : Branch
after_5 = with after_3 (constraint 0 Holds 6 ∷ []) []

-- lists that take a branch that is written out
enough : {ls : Lengths} {k : ℕ} {br : Branch} → T (leb (length br.constraints) ls.constraints) → T (leb (length br.edges) 0) → T (leb k ls.splits) → T (leb br.next 256) → Room ls k br
enough c e s l = record { lists = record { constraints = lit≤ c; edges = omega (arith, lit≤ e); splits = lit≤ s }; labels = lit≤ l }

module _ (edges : ℕ) where
  four_under : Underway unsatisfiable_sample (lists 4 edges 1) (take 6 refutation) after_5 []
  four_under =
      resumed
      (divided
      (resumed
      (divided
      (extended
      (extended begun (fact {a = 2} {x = 0} {c = 5} refl) (enough tt tt tt tt))
      (fact {a = 3} {x = 0} {c = 3} refl) (enough tt tt tt tt))
      (inclusion {a = 0} {x = 0} {c = 3} {d = 2} refl (lit< tt)) (enough tt tt tt tt))
      (holds_and_fails {a = 1} {b = 2} {x = 0} {n = 3} (there tt refl) (there tt refl)))
      (inclusion {a = 1} {x = 0} {c = 5} {d = 6} refl (lit< tt)) (enough tt tt tt tt))
      (holds_and_fails {a = 0} {b = 3} {x = 0} {n = 5} (there tt refl) (there tt refl))

  full : StepsReason unsatisfiable_sample (lists 4 edges 1) (decoded (encoded refutation)) (AtStep 6 Full)
  full = subst (λ ss. StepsReason unsatisfiable_sample (lists 4 edges 1) ss (AtStep 6 Full)) (sym refutation_read) (record {
    current = step 3 3 0;
    here = there tt refl;
    branch = after_5;
    pending = [];
    underway = four_under;
    because = branch_full (not_holds {a = 3} {x = 0} {n = 6} {c = 2} (there tt refl) refl) (λ r. let l : 5 ≤ 4 = r.lists.constraints in omega arith);
  })

  pub list_full : Gives (Refute unsatisfiable_sample (lists 4 edges 1) refutation) (RefusedAt refute_fault_number refute_fault_place 11 6)
  list_full = refused unsatisfiable_sample formed (lists 4 edges 1) refutation refutation_whole (AtStep 6 Full) full

module _ (ls : Lengths) (seven : 7 ≤ ls.constraints) (two : 2 ≤ ls.splits) where
  room : {k : ℕ} {br : Branch} → T (leb (length br.constraints) 7) → T (leb (length br.edges) 0) → T (leb k 2) → T (leb br.next 256) → Room ls k br
  room c e s l = record { lists = record { constraints = omega (arith, lit≤ c); edges = omega (arith, lit≤ e); splits = omega (arith, lit≤ s) }; labels = lit≤ l }

  six_under : Underway sample ls (take 6 wrong_steps) second_side (with after_and (constraint 0 Holds 2 ∷ []) [] ∷ [])
  six_under =
      resumed
      (divided
      (divided
      (extended
      (extended
      (extended begun examples.wrong.step_0 (room tt tt tt tt))
      examples.wrong.step_1 (room tt tt tt tt))
      examples.wrong.step_2 (room tt tt tt tt))
      examples.wrong.step_3 (room tt tt tt tt))
      examples.wrong.step_4 (room tt tt tt tt))
      examples.wrong.step_5

  misfit : StepsReason sample ls (decoded (encoded wrong_steps)) (AtStep 6 Misfit)
  misfit = subst (λ ss. StepsReason sample ls ss (AtStep 6 Misfit)) (sym wrong_read) (record {
    current = step 12 2 6;
    here = there tt refl;
    branch = second_side;
    pending = with after_and (constraint 0 Holds 2 ∷ []) [] ∷ [];
    underway = six_under;
    because = (record { formed = refl; entered = refl; present = refl; live = refl }, examples.wrong.step_6);
  })

  pub no_rule : Gives (Refute sample ls wrong_steps) (RefusedAt refute_fault_number refute_fault_place 10 6)
  no_rule = refused sample examples.sample_lawful.well_formed ls wrong_steps wrong_whole (AtStep 6 Misfit) misfit
