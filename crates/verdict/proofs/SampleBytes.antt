-- What the bytes of the sample model say. Assumes nothing.
use Rattle.std.proofs.Common.{◌≡◌, ℕ, zero, suc, ◌+◌, ◌*◌, ◌<◌, ◌≤◌, ◌≢◌, Bool, true, false, cond, List, [], ◌∷◌, length, get_or, set, replicate, refl, ◌∙◌, arith}
use Rattle.std.proofs.Math.Path.{fun_ext}
use Rattle.std.proofs.lemmas.List.{get_or-set_same, get_or-set_other, length-set, length-replicate}
use Rattle.logic.specs.Bytes.{u32_at}
use Rattle.orders.proofs.Tables.{no_rows}
use Rattle.models.specs.Interpretations.{Interpretation, interpretation_of}
use Rattle.models.specs.Answers.{HasModelLength}
use Rattle.models.specs.Samples.{sample_bytes}

-- names 0, 1 and 2 have the sets 3, 1 and 2
abbrev pub sample_names : ℕ → ℕ
sample_names a = get_or (3 ∷ 1 ∷ 2 ∷ []) a 0

abbrev pub sample_interpretation : Interpretation
sample_interpretation = record { size = 2; names = sample_names; successors = λ r x. 0; individual = λ a. 0 }

-- zeros, in which four bytes are set
module _ (xs : List ℕ) (zeros : (k : ℕ) → get_or xs k 0 ≡ 0) (long : length xs ≡ 2337) where
  abbrev once : List ℕ
  once = set xs 0 2

  abbrev twice : List ℕ
  twice = set once 1 3

  abbrev thrice : List ℕ
  thrice = set twice 5 1

  abbrev bytes : List ℕ
  bytes = set thrice 9 2

  bytes_long : length bytes ≡ 2337
  bytes_long = length-set thrice 9 2 ∙ length-set twice 5 1 ∙ length-set once 1 3 ∙ length-set xs 0 2 ∙ long

  other : (k : ℕ) → k ≢ 0 → k ≢ 1 → k ≢ 5 → k ≢ 9 → get_or bytes k 0 ≡ 0
  other k a b c d =
      get_or-set_other thrice 9 k 2 0 d ∙ get_or-set_other twice 5 k 1 0 c ∙ get_or-set_other once 1 k 3 0 b
      ∙ get_or-set_other xs 0 k 2 0 a ∙ zeros k

  byte_0 : get_or bytes 0 0 ≡ 2
  byte_0 =
      get_or-set_other thrice 9 0 2 0 (λ e. omega arith) ∙ get_or-set_other twice 5 0 1 0 (λ e. omega arith)
      ∙ get_or-set_other once 1 0 3 0 (λ e. omega arith) ∙ get_or-set_same xs 0 2 0 (omega arith)

  byte_1 : get_or bytes 1 0 ≡ 3
  byte_1 =
      get_or-set_other thrice 9 1 2 0 (λ e. omega arith) ∙ get_or-set_other twice 5 1 1 0 (λ e. omega arith)
      ∙ get_or-set_same once 1 3 0 (omega (arith, length-set xs 0 2))

  byte_5 : get_or bytes 5 0 ≡ 1
  byte_5 = get_or-set_other thrice 9 5 2 0 (λ e. omega arith) ∙ get_or-set_same twice 5 1 0 (omega (arith, length-set once 1 3, length-set xs 0 2))

  byte_9 : get_or bytes 9 0 ≡ 2
  byte_9 = get_or-set_same thrice 9 2 0 (omega (arith, length-set twice 5 1, length-set once 1 3, length-set xs 0 2))

  -- three zeros behind a byte
  word_of : (k : ℕ) → ((j : ℕ) → k < j → j ≤ k + 3 → get_or bytes j 0 ≡ 0) → u32_at bytes k ≡ get_or bytes k 0
  word_of k behind =
      let a = behind (k + 1) (omega arith) (omega arith) in
      let b = behind (k + 2) (omega arith) (omega arith) in
      let c = behind (k + 3) (omega arith) (omega arith) in
      omega arith

  -- from byte 10 on there are only zeros
  far_byte : (k : ℕ) → 10 ≤ k → get_or bytes k 0 ≡ 0
  far_byte k h = other k (λ e. omega arith) (λ e. omega arith) (λ e. omega arith) (λ e. omega arith)

  far_word : (k : ℕ) → 10 ≤ k → u32_at bytes k ≡ 0
  far_word k h = word_of k (λ j l m. far_byte j (omega arith)) ∙ far_byte k h

  none : (b : Bool) (n : ℕ) → n ≡ 0 → cond b n 0 ≡ 0
  none true n e = e
  none false n e = refl

  name_at : (a : ℕ) → (interpretation_of bytes).names a ≡ sample_names a
  name_at zero = word_of 1 (λ j l m. other j (λ e. omega arith) (λ e. omega arith) (λ e. omega arith) (λ e. omega arith)) ∙ byte_1
  name_at (suc zero) = word_of 5 (λ j l m. other j (λ e. omega arith) (λ e. omega arith) (λ e. omega arith) (λ e. omega arith)) ∙ byte_5
  name_at (suc (suc zero)) = word_of 9 (λ j l m. other j (λ e. omega arith) (λ e. omega arith) (λ e. omega arith) (λ e. omega arith)) ∙ byte_9
  name_at (suc (suc (suc a))) = none _ _ (far_word (1 + 4 * suc (suc (suc a))) (omega arith))

  led_at : (r x : ℕ) → (interpretation_of bytes).successors r x ≡ 0
  led_at r x = none _ _ (far_word (257 + 4 * (32 * r + x)) (omega arith))

  individual_at : (a : ℕ) → (interpretation_of bytes).individual a ≡ 0
  individual_at a = none _ _ (far_byte (2305 + a) (omega arith))

  bytes_said : interpretation_of bytes ≡ sample_interpretation
  bytes_said = λ i. record { size = byte_0 i; names = fun_ext name_at i; successors = fun_ext (λ r. fun_ext (led_at r)) i; individual = fun_ext individual_at i }

pub sample_whole : HasModelLength sample_bytes
unfolding sample_bytes
sample_whole = bytes_long (replicate 2337 0) (no_rows 2337) (length-replicate {A = ℕ} 2337 0)

pub sample_said : interpretation_of sample_bytes ≡ sample_interpretation
unfolding sample_bytes
sample_said = bytes_said (replicate 2337 0) (no_rows 2337) (length-replicate {A = ℕ} 2337 0)
