-- Steps in bytes: five for each, the op and then the operands a and b, low byte first.
-- step_at, decoded: the steps that bytes encode. WholeSteps: bytes of whole steps, and not too many.
-- encoded: the bytes of steps. Bytes: numbers that are bytes.
-- Assumes nothing.
use Rattle.std.specs.Prelude.{◌≡◌, ℕ, zero, suc, ◌+◌, ◌*◌, ◌/◌, ◌%◌, ◌<◌, ◌≤◌, List, [], ◌∷◌, ◌++◌, length}
use Rattle.std.specs.List.{AllByRecursion}
use Rattle.logic.specs.Bytes.{byte, u16_at}
use Rattle.logic.specs.declared.tableau.Step.{Step}
use Rattle.logic.specs.Rules.{step}

-- step i
abbrev pub step_at : List ℕ → ℕ → Step
step_at bs i = step (byte bs (5 * i)) (u16_at bs (5 * i + 1)) (u16_at bs (5 * i + 3))

-- the first n steps
abbrev pub first_steps : ℕ → List ℕ → List Step
first_steps zero bs = []
first_steps (suc n) bs = first_steps n bs ++ step_at bs n ∷ []

-- the steps that the bytes encode
abbrev pub decoded : List ℕ → List Step
decoded bs = first_steps (length bs / 5) bs

-- the bytes are whole steps, at most 8,192
pub record WholeSteps (bs : List ℕ) : Type 0 where
  pub whole : length bs % 5 ≡ 0
  pub few : length bs ≤ 40960

-- the bytes of a list of steps
abbrev pub encoded : List Step → List ℕ
encoded [] = []
encoded (s ∷ ss) = s.op ∷ s.a % 256 ∷ s.a / 256 ∷ s.b % 256 ∷ s.b / 256 ∷ encoded ss

abbrev pub Bytes : List ℕ → Type 0
Bytes bs = AllByRecursion (λ b. b < 256) bs
