-- The bytes of a model mean it. Assumes nothing.
use Rattle.std.proofs.Common.{◌≡◌, ℕ, ◌+◌, ◌-◌, ◌*◌, ◌/◌, ◌%◌, ◌^◌, ◌<◌, ◌≤◌, ◌&&◌, eqb, ltb, ◌⊎◌, sym, refl, ap, ◌∙◌, subst, inl, inr, arith}
use Rattle.std.proofs.lemmas.Bool.{cases_lt, cases_Bool, and_parts, and_from, ltb-true, lt-ltb, le-ltb, ne_eqb, cond-true, cond-false, cond_both}
use Rattle.logic.specs.Models.{Model}
use Rattle.logic.specs.Bytes.{byte, u32_at}
use Rattle.orders.specs.Masks.{has, mask_of, Within}
use Rattle.models.specs.Interpretations.{interpretation_of}
use Rattle.models.specs.Fields.{Field, size, name, role, individual, Good}
use Rattle.models.proofs.BadFields.{empty_within}
use Rattle.models.proofs.ByteTables.{table_length, table_at, table_small, digit_small, word_of}
use Rattle.models.proofs.ModelMasks.{mask_small, mask_within, mask_at}
use Rattle.models.specs.Encodings.{byte_of, name_mask, successor_mask, model_mask, model_byte, model_bytes, EncodedModel}

module _ (m : Model) (few : m.size ≤ 32) where
  led_there : (r x : ℕ) → x < m.size → successor_mask m r x ≡ mask_of (m.roles r x) m.size
  led_there r x h = cond-true _ _ _ (lt-ltb x m.size h)

  led_absent : (r x : ℕ) → m.size ≤ x → successor_mask m r x ≡ 0
  led_absent r x h = cond-false _ _ _ (le-ltb x m.size h)

  model_mask_small : (i : ℕ) → model_mask m i < 2 ^ 32
  model_mask_small i = elim (cases_lt i 64) [
    | inl l ↦ subst (λ w. w < 2 ^ 32) (sym (cond-true _ _ _ (lt-ltb i 64 l))) (mask_small m few (m.atoms i))
    | inr l ↦ subst (λ w. w < 2 ^ 32) (sym (cond-false _ _ _ (le-ltb i 64 l))) (led_small ((i - 64) / 32) ((i - 64) % 32))
  ]
    where
      led_small : (r x : ℕ) → successor_mask m r x < 2 ^ 32
      led_small r x = elim (cases_lt x m.size) [
        | inl l ↦ subst (λ w. w < 2 ^ 32) (sym (led_there r x l)) (mask_small m few (m.roles r x))
        | inr l ↦ subst (λ w. w < 2 ^ 32) (sym (led_absent r x l)) (omega arith)
      ]

  mask_byte : (k i j : ℕ) → k ≡ 1 + 4 * i + j → i < 576 → j < 4 → byte (model_bytes m) k ≡ byte_of (model_mask m i) j
  mask_byte k i j e h l =
      let quotient : (k - 1) / 4 ≡ i = omega arith in
      let rest : (k - 1) % 4 ≡ j = omega arith in
      table_at 2337 (model_byte m) k (omega arith)
      ∙ cond-false _ _ _ (ne_eqb k 0 (λ z. omega arith))
      ∙ cond-true _ _ _ (lt-ltb k 2305 (omega arith))
      ∙ ap (λ q. byte_of (model_mask m q) ((k - 1) % 4)) quotient ∙ ap (byte_of (model_mask m i)) rest

  mask_word : (i : ℕ) → i < 576 → u32_at (model_bytes m) (1 + 4 * i) ≡ model_mask m i
  mask_word i h =
      word_of (model_bytes m) (1 + 4 * i) (model_mask m i) (model_mask_small i)
      (mask_byte _ i 0 (omega arith) h (omega arith)) (mask_byte _ i 1 refl h (omega arith)) (mask_byte _ i 2 refl h (omega arith)) (mask_byte _ i 3 refl h (omega arith))

  said_size : (interpretation_of (model_bytes m)).size ≡ m.size
  said_size = table_at 2337 (model_byte m) 0 (omega arith)

  said_name : (a : ℕ) → a < 64 → (interpretation_of (model_bytes m)).names a ≡ name_mask m a
  said_name a h = cond-true _ _ _ (lt-ltb a 64 h) ∙ mask_word a (omega arith) ∙ cond-true _ _ _ (lt-ltb a 64 h)

  said_led : (r x : ℕ) → r < 16 → x < 32 → (interpretation_of (model_bytes m)).successors r x ≡ successor_mask m r x
  said_led r x h l =
      let i = 64 + (32 * r + x) in
      let at : 257 + 4 * (32 * r + x) ≡ 1 + 4 * i = omega arith in
      let from : (i - 64) % 32 ≡ x = omega arith in
      let by : (i - 64) / 32 ≡ r = omega arith in
      cond-true _ _ _ (and_from _ _ (lt-ltb r 16 h) (lt-ltb x 32 l))
      ∙ ap (u32_at (model_bytes m)) at ∙ mask_word i (omega arith)
      ∙ cond-false _ _ _ (le-ltb i 64 (omega arith))
      ∙ ap (λ q. successor_mask m q ((i - 64) % 32)) by ∙ ap (successor_mask m r) from

  said_individual : (a : ℕ) → a < 32 → (interpretation_of (model_bytes m)).individual a ≡ m.individual a
  said_individual a h =
      let e : 2305 + a - 2305 ≡ a = omega arith in
      cond-true _ _ _ (lt-ltb a 32 h)
      ∙ table_at 2337 (model_byte m) (2305 + a) (omega arith)
      ∙ cond-false _ _ _ (ne_eqb (2305 + a) 0 (λ z. omega arith))
      ∙ cond-false _ _ _ (le-ltb (2305 + a) 2305 (omega arith))
      ∙ ap m.individual e

  -- what is within the model's size is within the size that the bytes say
  within_said : (set mask : ℕ) → set ≡ mask → Within m.size mask → Within (interpretation_of (model_bytes m)).size set
  within_said set mask e h y t = subst (λ n. y < n) (sym said_size) (h y (sym (ap (λ s. has s y) e) ∙ t))

  successors_within : (r x : ℕ) → Within m.size (successor_mask m r x)
  successors_within r x = elim (cases_lt x m.size) [
    | inl l ↦ subst (Within m.size) (sym (led_there r x l)) (mask_within m few (m.roles r x))
    | inr l ↦ empty_within m.size _ (led_absent r x l)
  ]

  -- past the roles, and the elements that there can be, nothing is said
  led_said : (r x : ℕ) → ((interpretation_of (model_bytes m)).successors r x ≡ successor_mask m r x) ⊎ ((interpretation_of (model_bytes m)).successors r x ≡ 0)
  led_said r x = elim (cases_Bool (ltb r 16 && ltb x 32)) [
    | inl h ↦ (let p = and_parts _ _ h in inl (said_led r x (ltb-true r 16 p.0) (ltb-true x 32 p.1)))
    | inr h ↦ inr (cond-false _ _ _ h)
  ]

  good : (f : Field) → Good (interpretation_of (model_bytes m)) f
  good size = (omega (arith, said_size, m.inhabited), omega (arith, said_size, few))
  good (name a) = elim (cases_lt a 64) [
    | inl l ↦ within_said _ _ (said_name a l) (mask_within m few (m.atoms a))
    | inr l ↦ empty_within _ _ (cond-false _ _ _ (le-ltb a 64 l))
  ]
  good (role r x) = elim (led_said r x) [
    | inl e ↦ (within_said _ _ e (successors_within r x), λ h. e ∙ led_absent r x (subst (λ n. n ≤ x) said_size h))
    | inr e ↦ (empty_within _ _ e, λ h. e)
  ]
  good (individual a) = elim (cases_lt a 32) [
    | inl l ↦ omega (arith, said_individual a l, m.individual_within a l, said_size)
    | inr l ↦ omega (arith, cond-false _ (byte (model_bytes m) (2305 + a)) 0 (le-ltb a 32 l), m.inhabited, said_size)
  ]

  model_small : (k : ℕ) → k < 2337 → model_byte m k < 256
  model_small k h = cond_both (eqb k 0) m.size _ (λ b. b < 256) (λ _. omega (arith, few)) (λ _.
      cond_both (ltb k 2305) _ _ (λ b. b < 256)
      (λ _. digit_small (model_mask m ((k - 1) / 4)) ((k - 1) % 4))
      (λ l. omega (arith, m.individual_within (k - 2305) (omega arith), few)))

  pub encoded : EncodedModel m (model_bytes m)
  encoded = record {
    bytes = table_small 2337 (model_byte m) model_small;
    whole = table_length 2337 (model_byte m);
    valid = good;
    size = said_size;
    means = λ o f b. record {
      size = sym said_size;
      atoms = λ a x h l. sym (ap (λ s. has s x) (said_name a h) ∙ mask_at m few (m.atoms a) x l);
      roles = λ r x y h l k. sym (ap (λ s. has s y) (said_led r x h (omega arith) ∙ led_there r x l) ∙ mask_at m few (m.roles r x) y k);
      individual = λ a h. sym (said_individual a h);
      better = λ y x k l. sym (b.better x y l k);
    };
  }
