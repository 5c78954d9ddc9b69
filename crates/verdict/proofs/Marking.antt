-- From what the parts answer to the verdict, and what it means. Assumes nothing.
use Rattle.std.proofs.Common.{◌≡◌, ℕ, ◌+◌, ◌≤◌, List, length, Bor, Option, Some, None, Result, Ok, Err, sym, refl, ap, ◌∙◌, subst, inl, inr, arith}
use Rattle.std.specs.Option.{unwrap_or}
use Rattle.std.specs.Slice.{IsGetRangeResult}
use Rattle.std.proofs.lemmas.List.{length-take, take_all}
use Rattle.logic.specs.Books.{Book}
use Rattle.logic.specs.Models.{Model}
use Rattle.logic.specs.Satisfaction.{Satisfies}
use Rattle.logic.specs.Tableaux.{named_count}
use Rattle.sealed.specs.Writing.{SealedAs}
use Rattle.sealed.proofs.Opening.{sealed_once}
use Rattle.orders.specs.PairLaws.{order_of_pairs, PairsLawful}
use Rattle.models.specs.Interpretations.{interpretation_of}
use Rattle.models.specs.Meanings.{Compatible, model_of}
use Rattle.models.specs.Answers.{HasModelLength}
use Rattle.judge.specs.Steps.{decoded}
use Rattle.judge.specs.Refutations.{Refutation}
use Rattle.verdict.specs.declared.Verdict.{Verdict}
use Rattle.verdict.specs.declared.Verdict.TheVariants.{Closed, Satisfied}
use Rattle.verdict.specs.declared.mark_fault.MarkFault.{MarkFault}
use Rattle.verdict.specs.declared.mark_fault.MarkFault.TheVariants.{Check, Pairs, Refute, Show}
use Rattle.verdict.specs.MarkFaults.{mark_fault_place}
use Rattle.verdict.specs.Marks.{marked_part, marker_lists, TableauAnswer, ModelAnswer, verdict_of, TableauMark, ModelMark}
use Rattle.verdict.proofs.Places.{check_place, pairs_place, pairs_unlawful, refute_place, show_place}

-- the part up to 65,535, or all where there is none
pub first_part : (b : Bor (List ℕ)) (r : Option (Bor (List ℕ))) → IsGetRangeResult b.now 0 65535 r → (unwrap_or r b).now ≡ marked_part b.now
first_part b (Some x) p = p.0.2
first_part b None p = sym (take_all 65535 b.now (elim p.0 [ inl l ↦ omega (arith, l) | inr l ↦ omega (arith, l) ]))

-- the whole of a file is short
pub short : (xs bs : List ℕ) → xs ≡ marked_part bs → length xs ≤ 65535
short xs bs e = omega (arith, ap length e, length-take 65535 bs)

pub tableau_place : (bs ss : List ℕ) (f : MarkFault) → TableauAnswer bs ss (Err f) → mark_fault_place f ≤ length bs + length ss
tableau_place bs ss (Check f) a = omega (arith, check_place bs f a.1)
tableau_place bs ss (Pairs f) a = absurd a
tableau_place bs ss (Refute f) (bk, sealed, a) = omega (arith, refute_place bk marker_lists ss f (a.refused f refl))
tableau_place bs ss (Show f) a = absurd a

pub model_place : (bs ms ps : List ℕ) (f : MarkFault) → ModelAnswer bs ms ps (Err f) → mark_fault_place f ≤ length bs + length ms + length ps + 2337
model_place bs ms ps (Check f) a = omega (arith, check_place bs f a.1)
model_place bs ms ps (Pairs f) a = omega (arith, pairs_place ps f a.1)
model_place bs ms ps (Refute f) a = absurd a
model_place bs ms ps (Show f) (bk, sealed, lawful, (list, p)) = omega (arith, show_place bk ms ps list f sealed.lawful p.answer)

-- what is behind a verdict of closed
abbrev Closes : List ℕ → List ℕ → ℕ → Type 0
Closes bs ss n = (bk : Book) × SealedAs bs bk × Refutation bk marker_lists ss × (n ≡ named_count (decoded ss))

closes : (bs ss : List ℕ) (r : Result ℕ MarkFault) (n : ℕ) → TableauAnswer bs ss r → verdict_of Closed r ≡ Closed n → Closes bs ss n
closes bs ss (Ok k) n (bk, sealed, (u, a, count)) e =
    let shown = a.accepted u refl in
    let same : n ≡ k = cc e in
    (bk, sealed, shown.refutation, same ∙ count ∙ shown.count)
closes bs ss (Err f) n a e = cc e

closed_by : (bs ss : List ℕ) (r : Result ℕ MarkFault) (n : ℕ) → TableauAnswer bs ss r → Closes bs ss n → verdict_of Closed r ≡ Closed n
closed_by bs ss (Ok k) n (bk, sealed, (u, a, count)) (other, s, w, is) = ap Closed (count ∙ (a.accepted u refl).count ∙ sym is)
closed_by bs ss (Err (Check f)) n a (other, s, w, is) = absurd (a.0 (other, s))
closed_by bs ss (Err (Pairs f)) n a w = absurd a
closed_by bs ss (Err (Refute f)) n (bk, sealed, a) (other, s, w, is) =
    cc (a.accepts (subst (λ b. Refutation b marker_lists ss) (sealed_once bs other bk s sealed) w)).1
closed_by bs ss (Err (Show f)) n a w = absurd a

sound : (bs ss : List ℕ) (r : Result ℕ MarkFault) (n : ℕ) → TableauAnswer bs ss r → verdict_of Closed r ≡ Closed n → (bk : Book) → SealedAs bs bk → (m : Model) → Satisfies m bk → ⊥
sound bs ss (Ok k) n (bk, sealed, (u, a, count)) e other s m sat =
    (a.accepted u refl).no_model m (subst (Satisfies m) (sealed_once bs other bk s sealed) sat)
sound bs ss (Err f) n a e other s m sat = cc e

pub tableau_mark : (bs ss : List ℕ) (r : Result ℕ MarkFault) (v : Verdict) → TableauAnswer bs ss r → v ≡ verdict_of Closed r → TableauMark bs ss v
tableau_mark bs ss r v a e = record {
  answer = r;
  answered = a;
  verdict = e;
  closed = λ n. (λ c. closes bs ss r n a (sym e ∙ c), λ w. e ∙ closed_by bs ss r n a w);
  sound = λ n c. sound bs ss r n a (sym e ∙ c);
}

-- what is behind a verdict of satisfied
abbrev Satisfying : List ℕ → List ℕ → List ℕ → ℕ → Type 0
Satisfying bs ms ps n =
    (bk : Book) × SealedAs bs bk × PairsLawful ps × HasModelLength ms
    × ((f : Compatible (interpretation_of ms) (order_of_pairs ps)) × Satisfies (model_of (interpretation_of ms) (order_of_pairs ps) f) bk) × (n ≡ (interpretation_of ms).size)

satisfying : (bs ms ps : List ℕ) (r : Result ℕ MarkFault) (n : ℕ) → ModelAnswer bs ms ps r → verdict_of Satisfied r ≡ Satisfied n → Satisfying bs ms ps n
satisfying bs ms ps (Ok k) n (bk, sealed, lawful, (list, p)) e =
    let a = p.answer in
    let same : n ≡ k = cc e in
    (bk, sealed, lawful, a.0.0, (a.0.1, (a.3 a.0.1).0), same ∙ a.2)
satisfying bs ms ps (Err f) n a e = cc e

satisfied_by : (bs ms ps : List ℕ) (r : Result ℕ MarkFault) (n : ℕ) → ModelAnswer bs ms ps r → Satisfying bs ms ps n → verdict_of Satisfied r ≡ Satisfied n
satisfied_by bs ms ps (Ok k) n (bk, sealed, lawful, (list, p)) (other, s, strict, whole-ms, model, is) = ap Satisfied (p.answer.2 ∙ sym is)
satisfied_by bs ms ps (Err (Check f)) n a (other, s, strict, whole-ms, model, is) = absurd (a.0 (other, s))
satisfied_by bs ms ps (Err (Pairs f)) n a (other, s, strict, whole-ms, model, is) = absurd (pairs_unlawful ps f a.1 strict)
satisfied_by bs ms ps (Err (Refute f)) n a w = absurd a
satisfied_by bs ms ps (Err (Show f)) n (bk, sealed, lawful, (list, p)) (other, s, strict, whole-ms, (fits, sat), is) =
    let here = subst (Satisfies (model_of (interpretation_of ms) (order_of_pairs ps) fits)) (sealed_once bs other bk s sealed) sat in
    cc (p.exact.accepted whole-ms fits (omega (arith, sealed.lawful.well_formed.few_nodes)) here)

pub model_mark : (bs ms ps : List ℕ) (r : Result ℕ MarkFault) (v : Verdict) → ModelAnswer bs ms ps r → v ≡ verdict_of Satisfied r → ModelMark bs ms ps v
model_mark bs ms ps r v a e = record {
  answer = r;
  answered = a;
  verdict = e;
  satisfied = λ n. (λ c. satisfying bs ms ps r n a (sym e ∙ c), λ w. e ∙ satisfied_by bs ms ps r n a w);
}
