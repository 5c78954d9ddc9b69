-- Where some better element has a decided property, some better element has it of which no better one
-- has it. Assumes nothing.
use Rattle.std.proofs.Common.{◌≡◌, ℕ, zero, suc, ◌<◌, ◌≤◌, true, arith}
use mathlib.Core.Logic.Dec
use Rattle.std.proofs.lemmas.Bool.{both_ways}
use Rattle.logic.specs.Models.{Model, NoneBetter}
use Rattle.logic.specs.Laws.{MinimalExists}
use Rattle.logic.proofs.Deciding.{true_dec, and_last}

module _ (m : Model) (P : ℕ → Type 0) (d : (y : ℕ) → Dec (P y)) (x : ℕ) (x-in : x < m.size) where
  -- y is better than x and has the property, and no element below k is better than y and has it
  record Best (k : ℕ) : Type 0 where
    y : ℕ
    within : y < m.size
    better : m.better y x ≡ true
    has : P y
    best : (z : ℕ) → z < k → m.better z y ≡ true → P z → ⊥

  step : (k : ℕ) → k < m.size → (b : Best k) → Dec ((m.better k b.y ≡ true) × P k) → Best (suc k)
  step k h b (yes w) =
      record {
        y = k;
        within = h;
        better = m.transitive x b.y k x-in b.within h w.0 b.better;
        has = w.1;
        best =
            and_last (λ z. m.better z k ≡ true → P z → ⊥) k
            (λ z lt t p. b.best z lt (m.transitive b.y k z b.within h (omega arith) t w.0) p)
            (λ t p. both_ways _ (m.irreflexive k h) t);
      }
  step k h b (no n) =
      record {
        y = b.y;
        within = b.within;
        better = b.better;
        has = b.has;
        best = and_last (λ z. m.better z b.y ≡ true → P z → ⊥) k b.best (λ t p. n (t, p));
      }

  up_to : (k : ℕ) → k ≤ m.size → (y : ℕ) → y < m.size → m.better y x ≡ true → P y → Best k
  up_to zero h y y-in t p = record { y = y; within = y-in; better = t; has = p; best = λ z lt. absurd (omega arith) }
  up_to (suc k) h y y-in t p =
      let b = up_to k (omega arith) y y-in t p in
      step k h b (Dec.and (true_dec (m.better k b.y)) (d k))

  pub minimal : (y : ℕ) → y < m.size → m.better y x ≡ true → P y → (z : ℕ) × (z < m.size) × (m.better z x ≡ true) × P z × NoneBetter m P z
  minimal y y-in t p = let b = up_to m.size (omega arith) y y-in t p in (b.y, b.within, b.better, b.has, b.best)

pub minimal_exists : MinimalExists
minimal_exists m p x h = minimal m (λ y. p y ≡ true) (λ y. true_dec (p y)) x h
