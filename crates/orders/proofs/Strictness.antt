-- Which orders are strict: one element alone, one whose rows are lawful, one by ranks. Assumes nothing.
use Rattle.std.proofs.Common.{◌≡◌, ℕ, ◌+◌, ◌*◌, ◌/◌, ◌<◌, ◌≤◌, true, false, ltb, List, length, None, sym, refl, ap, ◌∙◌, subst, inl, inr, arith}
use Rattle.std.proofs.lemmas.List.{get_or_past}
use Rattle.std.proofs.lemmas.Bool.{cases_lt, both_ways, and_parts, and_from, ltb-true, lt-ltb}
use Rattle.logic.specs.Bytes.{byte, u32_at}
use Rattle.orders.specs.Masks.{has, Preference, Strict, by_rows, alone, Tabulates}
use Rattle.orders.specs.PairLaws.{order_of_pairs, WholeRows, PairsLawful, LawfulRow, FirstUnlawful}
use Rattle.orders.specs.RankLaws.{order_of_ranks, RanksLawful}
use Rattle.orders.proofs.MaskBits.{has-zero, never, same_bits, mask_has}
use Rattle.orders.proofs.Tables.{table_means}

pub alone_strict : Strict alone
alone_strict = record {
  some = omega arith;
  few = omega arith;
  within = λ x y h. absurd (both_ways _ (has-zero y) h);
  past = λ x h. refl;
  irreflexive = λ x. has-zero x;
  transitive = λ x y z h k. k;
}

-- an order is strict where the rows below its size are lawful and the others empty
pub rows_strict : (o : Preference) → 1 ≤ o.size → o.size ≤ 32 → ((x : ℕ) → o.size ≤ x → o.better x ≡ 0) → ((x : ℕ) → x < o.size → LawfulRow o x) → Strict o
rows_strict o some few past rows = record {
  some = some;
  few = few;
  within = λ x. (row x).within;
  past = past;
  irreflexive = λ x. (row x).other;
  transitive = λ x y z h k. (row x).closed y h z k;
}
  where
    empty : (x y : ℕ) → o.size ≤ x → has (o.better x) y ≡ false
    empty x y l = ap (λ m. has m y) (past x l) ∙ has-zero y

    row : (x : ℕ) → LawfulRow o x
    row x = elim (cases_lt x o.size) [
      | inl l ↦ rows x l
      | inr l ↦ record { within = λ y t. absurd (both_ways _ (empty x y l) t); other = empty x x l; closed = λ y t. absurd (both_ways _ (empty x y l) t) }
    ]

-- past the end there are only zeros
pub word_past : (bs : List ℕ) (k : ℕ) → length bs ≤ k → u32_at bs k ≡ 0
word_past bs k h =
    let a = get_or_past bs k 0 h in
    let b = get_or_past bs (k + 1) 0 (omega arith) in
    let c = get_or_past bs (k + 2) 0 (omega arith) in
    let d = get_or_past bs (k + 3) 0 (omega arith) in
    omega arith

-- where the rows that the bytes say are all lawful, so are the bytes
pub paired_lawful : (bs rows : List ℕ) → WholeRows bs → Tabulates (order_of_pairs bs).better rows → FirstUnlawful (by_rows (length bs / 4) rows) None → PairsLawful bs
paired_lawful bs rows whole table none = (
  whole,
  rows_strict (order_of_pairs bs) (omega (arith, whole.some)) (omega (arith, whole.few))
      (λ x h. word_past bs (4 * x) (omega (arith, whole.fours)))
      (subst (λ o. FirstUnlawful o None) (table_means (order_of_pairs bs) (length bs / 4) rows refl table) none),
)

-- a table of the sets of a strict order is strict
pub table_strict : (o : Preference) (masks : List ℕ) → Tabulates o.better masks → Strict o → Strict (by_rows o.size masks)
table_strict o masks table strict = subst Strict (sym (table_means o o.size masks refl table)) strict

-- which elements are better by rank
better_true : (rs : List ℕ) (x y : ℕ) → has ((order_of_ranks rs).better x) y ≡ true → (y < length rs) × (byte rs y < byte rs x)
better_true rs x y h =
    let p = and_parts _ _ (sym (mask_has (λ z. ltb (byte rs z) (byte rs x)) (length rs) y) ∙ h) in
    (ltb-true _ _ p.0, ltb-true _ _ p.1)

better_from : (rs : List ℕ) (x y : ℕ) → y < length rs → byte rs y < byte rs x → has ((order_of_ranks rs).better x) y ≡ true
better_from rs x y l h = mask_has (λ z. ltb (byte rs z) (byte rs x)) (length rs) y ∙ and_from _ _ (lt-ltb _ _ l) (lt-ltb _ _ h)

pub ranked_past : (rs : List ℕ) (x : ℕ) → length rs ≤ x → (order_of_ranks rs).better x ≡ 0
ranked_past rs x h =
    same_bits ((order_of_ranks rs).better x) 0
    (λ y. never (has ((order_of_ranks rs).better x) y) (λ t. omega (arith, (better_true rs x y t).1, get_or_past rs x 0 h)) ∙ sym (has-zero y))

pub ranked_strict : (rs : List ℕ) → RanksLawful rs → Strict (order_of_ranks rs)
ranked_strict rs lawful = record {
  some = lawful.0;
  few = lawful.1;
  within = λ x y h. (better_true rs x y h).0;
  past = ranked_past rs;
  irreflexive = λ x. never (has ((order_of_ranks rs).better x) x) (λ h. omega (arith, (better_true rs x x h).1));
  transitive = λ x y z h k.
      (let p = better_true rs x y h in
      let q = better_true rs y z k in
      better_from rs x z q.0 (omega (arith, p.1, q.1)));
}
