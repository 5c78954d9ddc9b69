-- The orders of the sample rows: pairs 2, 0 and ranks 0, 0 are filled, and pairs 2, 1 are refused. Assumes nothing.
use Rattle.std.proofs.Common.{◌≡◌, ℕ, zero, suc, ◌*◌, ◌<◌, true, false, ◌&&◌, eqb, ltb, [], ◌∷◌, Ok, Err, Result, refl, ap, ◌∙◌, sym, arith, lit<, lit≤}
use Rattle.std.proofs.Math.Bool.{and-false}
use Rattle.std.proofs.lemmas.Bool.{both_ways, false≢true, ne_eqb}
use Rattle.logic.specs.declared.refusal.BadLength.{BadLength}
use Rattle.orders.specs.declared.faults.PairsFault.{PairsFault}
use Rattle.orders.specs.declared.faults.PairsFault.TheVariants as pair
use Rattle.logic.specs.Bytes.{byte}
use Rattle.orders.specs.Masks.{has, Preference, Strict}
use Rattle.orders.specs.PairLaws.{order_of_pairs, WholeRows, LawfulRow, LowestUnlawful}
use Rattle.orders.specs.RankLaws.{order_of_ranks}
use Rattle.orders.specs.Faults.{pairs_fault_number, pairs_fault_place}
use Rattle.orders.proofs.MaskBits.{has-zero, mask_has, below_within}
use Rattle.orders.proofs.Strictness.{rows_strict, word_past, ranked_strict}
use Rattle.verdict.specs.Rows.{Gives, pairs, FillPairs, FillRanks, RefusedAt}

-- element 1 is better than element 0
abbrev pub one_better : Preference
one_better = order_of_pairs (pairs 2 0)

pub whole : (first second : ℕ) → WholeRows (pairs first second)
whole first second = record { fours = refl; some = lit≤ tt; few = lit≤ tt }

pub better_at : (x y : ℕ) → has (one_better.better x) y ≡ (eqb y 1 && eqb x 0)
better_at zero zero = refl
better_at zero (suc zero) = refl
better_at zero (suc (suc y)) = has-zero y ∙ sym (ap (λ b. b && true) (ne_eqb (suc (suc y)) 1 (λ e. omega arith)))
better_at (suc zero) y = has-zero y ∙ sym (and-false (eqb y 1))
better_at (suc (suc x)) y =
    ap (λ set. has set y) (word_past (pairs 2 0) (4 * suc (suc x)) (omega arith)) ∙ has-zero y
    ∙ sym (ap (λ b. eqb y 1 && b) (ne_eqb (suc (suc x)) 0 (λ e. omega arith)) ∙ and-false (eqb y 1))

-- a set with nothing in it
bare : (o : Preference) (x : ℕ) → ((y : ℕ) → has (o.better x) y ≡ false) → LawfulRow o x
bare o x none = record {
  within = λ y h. absurd (both_ways _ (none y) h);
  other = none x;
  closed = λ y h. absurd (both_ways _ (none y) h);
}

one_lawful : (x : ℕ) → x < 2 → LawfulRow one_better x
one_lawful zero h = record {
  within = below_within 2 2 (lit< tt);
  other = refl;
  closed = λ y t z u. absurd (both_ways _ (has_none y t z) u);
}
  where
    -- what is better than 0 is 1, and nothing is better than 1
    has_none : (y : ℕ) → has 2 y ≡ true → (z : ℕ) → has (one_better.better y) z ≡ false
    has_none zero t z = absurd (false≢true t)
    has_none (suc zero) t z = has-zero z
    has_none (suc (suc y)) t z = absurd (both_ways _ (has-zero y) t)
one_lawful (suc zero) h = bare one_better 1 (λ y. has-zero y)
one_lawful (suc (suc x)) h = absurd (omega arith)

pub one_strict : Strict one_better
one_strict = rows_strict one_better (lit≤ tt) (lit≤ tt) (λ x h. word_past (pairs 2 0) (4 * x) (omega arith)) one_lawful

pub one_filled : (before after : Preference) (r : Result (Unit {0}) PairsFault) → FillPairs (pairs 2 0) before (record { answer = r; left = after }) → after ≡ one_better
one_filled before after (Ok u) h = h.1
one_filled before after (Err (pair.BadLength n)) h = absurd (h.0.0 (whole 2 0))
one_filled before after (Err (pair.Unlawful x)) h = absurd (h.0.2.unlawful (one_lawful x h.0.2.within))

-- neither of two elements is better
abbrev pub neither : Preference
neither = order_of_ranks (0 ∷ 0 ∷ [])

rank : (k : ℕ) → byte (0 ∷ 0 ∷ []) k ≡ 0
rank zero = refl
rank (suc zero) = refl
rank (suc (suc k)) = refl

pub none_better : (x y : ℕ) → has (neither.better x) y ≡ false
none_better x y =
    mask_has (λ y. ltb (byte (0 ∷ 0 ∷ []) y) (byte (0 ∷ 0 ∷ []) x)) 2 y
    ∙ (λ i. ltb y 2 && ltb (rank y i) (rank x i)) ∙ and-false (ltb y 2)

pub neither_strict : Strict neither
neither_strict = ranked_strict (0 ∷ 0 ∷ []) (lit≤ tt, lit≤ tt)

pub neither_filled : (before after : Preference) (r : Result (Unit {0}) (BadLength 7)) → FillRanks (0 ∷ 0 ∷ []) before (record { answer = r; left = after }) → after ≡ neither
neither_filled before after (Ok u) h = h.1
neither_filled before after (Err f) h = absurd (h.0.0 (lit≤ tt, lit≤ tt))

-- each of two elements is better than the other
abbrev both : Preference
both = order_of_pairs (pairs 2 1)

-- element 1 is better than 0, and what is better than 1 is not better than 0
both_unlawful : LawfulRow both 0 → ⊥
both_unlawful r = false≢true (r.closed 1 refl 0 refl)

lowest_unlawful : LowestUnlawful both 0
lowest_unlawful = record { within = lit< tt; unlawful = both_unlawful; lowest = λ w h. absurd (omega arith) }

strict_unlawful : Strict both → ⊥
strict_unlawful s = false≢true (s.transitive 0 1 0 refl refl)

pub unlawful : (before : Preference) → Gives (FillPairs (pairs 2 1) before) (λ fill. RefusedAt pairs_fault_number pairs_fault_place 15 0 fill.answer × (fill.left ≡ before))
unlawful before = record {
  some = (record { answer = Err (pair.Unlawful 0); left = before }, ((whole 2 1, refl, lowest_unlawful), refl));
  every = λ fill h. go fill.answer fill.left h;
}
  where
    go : (r : Result (Unit {0}) PairsFault) (after : Preference) → FillPairs (pairs 2 1) before (record { answer = r; left = after }) → RefusedAt pairs_fault_number pairs_fault_place 15 0 r × (after ≡ before)
    go (Ok u) after h = absurd (strict_unlawful h.0.1)
    go (Err (pair.BadLength n)) after h = absurd (h.0.0 (whole 2 1))
    go (Err (pair.Unlawful zero)) after h = ((refl, refl), h.1)
    go (Err (pair.Unlawful (suc x))) after h = absurd (both_unlawful (h.0.2.lowest 0 (omega arith)))
