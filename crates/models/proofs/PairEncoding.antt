-- The pairs of a model are its "better". Assumes nothing.
use Rattle.std.proofs.Common.{◌≡◌, ℕ, ◌+◌, ◌*◌, ◌/◌, ◌%◌, ◌<◌, ◌≤◌, length, sym, refl, ap, ◌∙◌, subst, arith}
use Rattle.logic.specs.Models.{Model}
use Rattle.logic.specs.Bytes.{byte}
use Rattle.orders.specs.Masks.{has, Within}
use Rattle.orders.specs.PairLaws.{order_of_pairs, WholeRows, LawfulRow}
use Rattle.orders.proofs.Strictness.{rows_strict, word_past}
use Rattle.models.proofs.ByteTables.{table_length, table_at, table_small, digit_small, word_of}
use Rattle.models.proofs.Encoding.{encoded}
use Rattle.models.proofs.ModelMasks.{mask_small, mask_within, mask_at}
use Rattle.models.specs.Encodings.{byte_of, better_mask, pair_bytes, EncodedOrder, ModelsEncoded}

module _ (m : Model) (few : m.size ≤ 32) where
  row_byte : (k x j : ℕ) → k ≡ 4 * x + j → x < m.size → j < 4 → byte (pair_bytes m) k ≡ byte_of (better_mask m x) j
  row_byte k x j e h l =
      let quotient : k / 4 ≡ x = omega arith in
      let rest : k % 4 ≡ j = omega arith in
      table_at (4 * m.size) (λ k. byte_of (better_mask m (k / 4)) (k % 4)) k (omega arith)
      ∙ ap (λ q. byte_of (better_mask m q) (k % 4)) quotient ∙ ap (byte_of (better_mask m x)) rest

  row_word : (x : ℕ) → x < m.size → (order_of_pairs (pair_bytes m)).better x ≡ better_mask m x
  row_word x h =
      word_of (pair_bytes m) (4 * x) (better_mask m x) (mask_small m few (λ y. m.better y x))
      (row_byte _ x 0 (omega arith) h (omega arith)) (row_byte _ x 1 refl h (omega arith)) (row_byte _ x 2 refl h (omega arith)) (row_byte _ x 3 refl h (omega arith))

  pair_length : length (pair_bytes m) ≡ 4 * m.size
  pair_length = table_length (4 * m.size) (λ k. byte_of (better_mask m (k / 4)) (k % 4))

  pair_size : (order_of_pairs (pair_bytes m)).size ≡ m.size
  pair_size = omega (arith, pair_length)

  row_within : (x : ℕ) → x < m.size → Within m.size ((order_of_pairs (pair_bytes m)).better x)
  row_within x h = subst (Within m.size) (sym (row_word x h)) (mask_within m few (λ y. m.better y x))

  row_at : (x y : ℕ) → x < m.size → y < m.size → has ((order_of_pairs (pair_bytes m)).better x) y ≡ m.better y x
  row_at x y h l = ap (λ s. has s y) (row_word x h) ∙ mask_at m few (λ y. m.better y x) y l

  row_lawful : (x : ℕ) → x < m.size → LawfulRow (order_of_pairs (pair_bytes m)) x
  row_lawful x h = record {
    within = subst (λ n. Within n ((order_of_pairs (pair_bytes m)).better x)) (sym pair_size) (row_within x h);
    other = row_at x x h h ∙ m.irreflexive x h;
    closed = λ y t z u.
        (let k = row_within x h y t in
        let l = row_within y k z u in
        row_at x z h l ∙ m.transitive x y z h k l (sym (row_at y z k l) ∙ u) (sym (row_at x y h k) ∙ t));
  }

  whole_rows : WholeRows (pair_bytes m)
  whole_rows = record {
    fours = omega (arith, pair_length);
    some = omega (arith, pair_length, m.inhabited);
    few = omega (arith, pair_length, few);
  }

  in_pairs : EncodedOrder m (pair_bytes m)
  in_pairs = record {
    bytes = table_small (4 * m.size) _ (λ k l. digit_small (better_mask m (k / 4)) (k % 4));
    lawful = (
      whole_rows,
      rows_strict (order_of_pairs (pair_bytes m)) (omega (arith, pair_size, m.inhabited)) (omega (arith, pair_size, few))
          (λ x h. word_past (pair_bytes m) (4 * x) (omega (arith, pair_length, pair_size, h)))
          (λ x h. row_lawful x (omega (arith, pair_size, h))),
    );
    means = record { size = pair_size; better = row_at };
  }

pub models_encoded : ModelsEncoded
models_encoded m few = (encoded m few, in_pairs m few)
