-- The first steps of bytes. Assumes nothing.
use Rattle.std.proofs.Common.{◌≡◌, ℕ, zero, suc, ◌+◌, ◌*◌, ◌/◌, ◌<◌, ◌≤◌, List, [], ◌∷◌, ◌++◌, length, get_or, take, drop, sym, refl, ap, ◌∙◌, ⊎_elim, add-one, arith}
use Rattle.std.proofs.lemmas.List.{length_push, length-append, length-drop, drop_at, drop-drop, get_or-drop, take_all, take-append-le, get_or_push, get_or_append_left}
use Rattle.std.proofs.lemmas.Bool.{cases_lt}
use Rattle.logic.specs.Places.{At}
use Rattle.logic.specs.Rules.{step}
use Rattle.judge.specs.Steps.{step_at, first_steps}

module _ (bs : List ℕ) where
  pub steps_length : (n : ℕ) → length (first_steps n bs) ≡ n
  steps_length zero = refl
  steps_length (suc n) = length_push (first_steps n bs) (step_at bs n) ∙ ap (λ k. k + 1) (steps_length n) ∙ add-one n

  pub steps_more : (i : ℕ) → first_steps (i + 1) bs ≡ first_steps i bs ++ step_at bs i ∷ []
  steps_more i = ap (λ k. first_steps k bs) (add-one i)

  -- a front of the steps
  pub steps-take : (i n : ℕ) → i ≤ n → take i (first_steps n bs) ≡ first_steps i bs
  steps-take i zero h =
      let e : i ≡ 0 = omega arith in
      ap (λ k. take k (first_steps 0 bs)) e ∙ ap (λ k. first_steps k bs) (sym e)
  steps-take i (suc n) h =
      ⊎_elim
      (λ (k : i < suc n). take-append-le i (first_steps n bs) (step_at bs n ∷ []) (omega (arith, steps_length n)) ∙ steps-take i n (omega arith))
      (λ (k : suc n ≤ i).
      let e : i ≡ suc n = omega arith in
      take_all i (first_steps (suc n) bs) (omega (arith, steps_length (suc n))) ∙ ap (λ j. first_steps j bs) (sym e))
      (cases_lt i (suc n))

  pub steps_at : (i n : ℕ) → i < n → At (first_steps n bs) i (step_at bs i)
  steps_at i zero h = absurd (omega arith)
  steps_at i (suc n) h =
      ⊎_elim
      (λ (k : i < n).
      let a = steps_at i n k in
      record { within = omega (arith, steps_length (suc n)); is = get_or_append_left (first_steps n bs) (step_at bs n ∷ []) (step_at bs i) i a.within ∙ a.is })
      (λ (k : n ≤ i).
      let e : n ≡ i = omega arith in
      record { within = omega (arith, steps_length (suc n)); is = get_or_push (first_steps n bs) (step_at bs n) (step_at bs i) i (steps_length n ∙ e) ∙ ap (step_at bs) e })
      (cases_lt i n)

  -- a chunk behind n steps is the next step, and the rest comes behind it
  pub record Arrived (n : ℕ) (chunk rest : List ℕ) : Type 0 where
    pub room : 5 * n + 5 ≤ length bs
    pub step : step_at chunk 0 ≡ step_at bs n
    pub behind : rest ≡ drop (5 * (n + 1)) bs

  -- a chunk of five bytes
  module _ (n : ℕ) (chunk rest : List ℕ) (five : length chunk ≡ 5) (e : drop (5 * n) bs ≡ chunk ++ rest) where
    byte_at : (j k : ℕ) → j < 5 → k ≡ 5 * n + j → get_or chunk j 0 ≡ get_or bs k 0
    byte_at j k h q =
        sym (ap (λ l. get_or l j 0) e ∙ get_or_append_left chunk rest 0 j (omega arith)) ∙ get_or-drop (5 * n) bs j 0 ∙ ap (λ v. get_or bs v 0) (sym q)

    chunk_step : step_at chunk 0 ≡ step_at bs n
    chunk_step =
        λ i.
        step (byte_at 0 (5 * n) (omega arith) (omega arith) i)
        (byte_at 1 (5 * n + 1) (omega arith) (omega arith) i + 256 * byte_at 2 (5 * n + 1 + 1) (omega arith) (omega arith) i)
        (byte_at 3 (5 * n + 3) (omega arith) (omega arith) i + 256 * byte_at 4 (5 * n + 3 + 1) (omega arith) (omega arith) i)

    chunk_room : 5 * n + 5 ≤ length bs
    chunk_room = omega (arith, sym (length-drop (5 * n) bs) ∙ ap length e, length-append chunk rest)

    chunk_rest : rest ≡ drop (5 * (n + 1)) bs
    chunk_rest =
        sym (drop_at chunk rest 5 five) ∙ ap (λ l. drop 5 l) (sym e) ∙ drop-drop 5 (5 * n) bs ∙ ap (λ k. drop k bs) (omega arith)

    -- it is the next step
    pub arrived : Arrived n chunk rest
    arrived = record { room = chunk_room; step = chunk_step; behind = chunk_rest }

  -- there are no more chunks
  pub chunks_end : (n : ℕ) (rest : List ℕ) → rest ≡ drop (5 * n) bs → 5 * n ≤ length bs → length rest < 5 → n ≡ length bs / 5
  chunks_end n rest e room few = omega (arith, ap length e, length-drop (5 * n) bs)
