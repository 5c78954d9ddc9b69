-- What refuting answers is what is promised. Assumes nothing.
use Rattle.std.proofs.Common.{◌≡◌, ℕ, ◌/◌, ◌≤◌, false, List, length, count_by, get_or, Ok, Err, Result, sym, refl, ap, ◌∙◌, subst, arith}
use Rattle.logic.specs.Books.{Book}
use Rattle.logic.specs.Lawful.{WellFormed}
use Rattle.logic.specs.Limits.{Lengths}
use Rattle.logic.specs.Soundness.{NamedTrue}
use Rattle.logic.specs.Tableaux.{writing}
use Rattle.logic.proofs.Soundness.{soundness, no_model}
use Rattle.judge.specs.declared.faults.RefuteFault.{RefuteFault}
use Rattle.judge.specs.declared.faults.RefuteFault.TheVariants.{BadLength}
use Rattle.judge.specs.declared.used.Used.{Used}
use Rattle.judge.specs.Members.{marks_of}
use Rattle.judge.specs.Progress.{Finished}
use Rattle.judge.specs.Reasons.{StepsReason, RefuteReason, by_length, by_steps}
use Rattle.judge.specs.Refutations.{Refutation, AcceptedTableau, RefuteAnswer}
use Rattle.judge.specs.Steps.{decoded, WholeSteps}
use Rattle.judge.specs.Taking.{WorkAnswer}
use Rattle.judge.proofs.Decoding.{steps_length}
use Rattle.judge.proofs.Fates.{not_both, one_fault}
use Rattle.judge.proofs.Naming.{marks_named, marks_counted}
use Rattle.judge.proofs.Trees.{finished_closed, closed_finished, roomy_fits}

ok_err : {A : Type 0} (u : Used) (f : RefuteFault) → ◌≡◌ {A = Result Used RefuteFault} (Ok u) (Err f) → A
ok_err u f e = let z : ◌≡◌ {A = ℕ} 0 1 = cc in absurd (omega arith)

module _ (bk : Book) (ls : Lengths) (bs : List ℕ) where
  -- steps that are taken to the end are a refutation, and the other way round
  refutes : WholeSteps bs → Finished bk ls (decoded bs) → Refutation bk ls bs
  refutes w f =
      let t = finished_closed bk ls f in
      let fits = roomy_fits bk ls t.0 t.2 in
      let few : length bs ≤ 40960 = w.few in
      let n : length (writing t.0) ≡ length bs / 5 = ap length t.1 ∙ steps_length bs (length bs / 5) in
      record { tableau = t.0; whole = w; written = t.1; limits = record { steps = omega arith; labels = fits.1 }; fits = fits.0 }

  finishes : Refutation bk ls bs → Finished bk ls (decoded bs)
  finishes r = subst (Finished bk ls) r.written (closed_finished bk ls r.tableau r.fits r.limits.labels)

  module _ (formed : WellFormed bk) where
    refuted : (u : Used) → Refutation bk ls bs → u.marks ≡ marks_of (decoded bs) → AcceptedTableau bk ls bs u
    refuted u r m =
        record {
          refutation = r;
          named = λ i. ap (λ v. get_or v i false) m ∙ marks_named bk formed.few_entries (decoded bs) r.tableau r.written i;
          count = ap (λ ms. count_by (λ mark. mark) ms) m ∙ marks_counted bk formed.few_entries (decoded bs) r.tableau r.written;
          sound = λ x h. soundness bk formed r.tableau x (subst (NamedTrue x bk) (sym r.written) h);
          no_model = no_model bk formed r.tableau;
        }

    -- bytes of whole steps
    module _ (w : WholeSteps bs) where
      by_halting : (f g : RefuteFault) → StepsReason bk ls (decoded bs) g → RefuteReason bk ls bs f → g ≡ f
      by_halting f g h (by_length n) = absurd (n w)
      by_halting f g h (by_steps v k) = one_fault bk ls (decoded bs) g f h k

      by_finishing : (f : RefuteFault) → Finished bk ls (decoded bs) → RefuteReason bk ls bs f → ⊥
      by_finishing f d (by_length n) = n w
      by_finishing f d (by_steps v k) = not_both bk ls (decoded bs) f d k

      pub answer_steps : (r : Result Used RefuteFault) → WorkAnswer bk ls (decoded bs) r → RefuteAnswer bk ls bs r
      answer_steps (Ok u) d =
          record {
            accepts = λ _. (u, refl);
            accepted = λ v e. let p : u ≡ v = cc in subst (AcceptedTableau bk ls bs) p (refuted u (refutes w d.0) d.1);
            refuses = λ f h. absurd (by_finishing f d.0 h);
            refused = λ f e. ok_err u f e;
          }
      answer_steps (Err g) h =
          record {
            accepts = λ r. absurd (not_both bk ls (decoded bs) g (finishes r) h);
            accepted = λ v e. ok_err v g (sym e);
            refuses = λ f k. ap Err (by_halting f g h k);
            refused = λ f e. let p : g ≡ f = cc in subst (RefuteReason bk ls bs) p (by_steps w h);
          }

  -- bytes that are not
  not_whole : (f : RefuteFault) → (WholeSteps bs → ⊥) → RefuteReason bk ls bs f → BadLength (length bs) ≡ f
  not_whole f n (by_length m) = refl
  not_whole f n (by_steps w h) = absurd (n w)

  pub answer_length : (WholeSteps bs → ⊥) → RefuteAnswer bk ls bs (Err (BadLength (length bs)))
  answer_length n =
      record {
        accepts = λ r. absurd (n r.whole);
        accepted = λ v e. ok_err v (BadLength (length bs)) (sym e);
        refuses = λ f h. ap Err (not_whole f n h);
        refused = λ f e. let p : BadLength (length bs) ≡ f = cc in subst (RefuteReason bk ls bs) p (by_length n);
      }
