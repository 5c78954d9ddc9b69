-- The marks that steps set. Assumes nothing.
use Rattle.std.proofs.Common.{◌≡◌, ℕ, ◌+◌, Bool, false, List, replicate, sym, ap, ◌∙◌}
use Rattle.std.proofs.lemmas.List.Sums.{fold_push}
use Rattle.logic.specs.declared.tableau.Step.{Step}
use Rattle.judge.specs.Members.{with_named, marks_of}
use Rattle.judge.specs.Steps.{step_at, first_steps}
use Rattle.judge.proofs.Decoding.{steps_more}

-- the marks after one step of bytes more
pub marks_next : (bs : List ℕ) (i : ℕ) (s : Step) (ms ns : List Bool) → s ≡ step_at bs i → ms ≡ marks_of (first_steps i bs) → ns ≡ with_named ms s → ns ≡ marks_of (first_steps (i + 1) bs)
marks_next bs i s ms ns e h k =
    k ∙ (λ j. with_named (h j) (e j)) ∙ sym (fold_push with_named (replicate 256 false) (first_steps i bs) (step_at bs i)) ∙ ap marks_of (sym (steps_more bs i))
