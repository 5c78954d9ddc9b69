-- Arrays that are made place by place. Assumes nothing.
use Rattle.std.proofs.Common.{◌≡◌, ℕ, zero, suc, ◌+◌, ◌<◌, ◌≤◌, cond, ltb, List, get_or, sym, ◌∙◌, subst, inl, inr, arith}
use denote.Param.Members.{Mut}
use Rattle.std.specs.Fn.{Called}
use Rattle.std.specs.Array.{IsFromFnResult, IsFromFnResultFrom}
use Rattle.std.proofs.lemmas.Bool.{cases_lt, cond-true, cond-false, lt-ltb, le-ltb}
use Rattle.std.proofs.lemmas.List.{get_or_past}
use Rattle.orders.specs.Masks.{Tabulates}

-- the closure changes nothing, and what it gives for the numbers below n has the property
abbrev Gives : {F B : Type 0} → Mut F (ℕ × Unit {0}) B → F → ℕ → (ℕ → B → Type 0) → Type 0
Gives {F} {B} g f n P = (k : ℕ) (y : B) (q : F) → k < n → Called g f (k, tt) y q → (q ≡ f) × P k y

made_from : {F B : Type 0} (g : Mut F (ℕ × Unit {0}) B) (f : F) (ys : List B) (n : ℕ) (P : ℕ → B → Type 0) → Gives g f n P → (i m : ℕ) → i + m ≡ n → IsFromFnResultFrom g f ys i m → (k : ℕ) (d : B) → i ≤ k → k < n → P k (get_or ys k d)
made_from g f ys n P each i zero e made k d h l = absurd (omega arith)
made_from g f ys n P each i (suc m) e made k d h l =
    let here = each i made.1 made.0 (omega arith) made.3 in
    elim (cases_lt i k) [
      | inl after ↦ made_from g f ys n P each (i + 1) m (omega arith) (subst (λ q. IsFromFnResultFrom g q ys (i + 1) m) here.0 made.4) k d (omega arith) l
      | inr upto ↦ (let same : i ≡ k = omega arith in subst (λ k. P k (get_or ys k d)) same (subst (P i) (sym (made.2.1 d)) here.1))
    ]

-- then each place has it, and what is past the end where the default has it
pub made_at : {F B : Type 0} {g : Mut F (ℕ × Unit {0}) B} {f : F} {ys : List B} {n : ℕ} (P : ℕ → B → Type 0) → IsFromFnResult g f ys n → Gives g f n P → (d : B) → ((k : ℕ) → n ≤ k → P k d) → (k : ℕ) → P k (get_or ys k d)
made_at {F} {B} {g} {f} {ys} {n} P made each d past k = elim (cases_lt k n) [
  | inl l ↦ made_from g f ys n P each 0 n (omega arith) made.each k d (omega arith) l
  | inr l ↦ subst (P k) (sym (get_or_past ys k d (omega (arith, made.long)))) (past k l)
]

-- an array of the values of a function
pub made_table : {F : Type 0} {g : Mut F (ℕ × Unit {0}) ℕ} {f : F} {ys : List ℕ} {n : ℕ} (v : ℕ → ℕ) → IsFromFnResult g f ys n → Gives g f n (λ k y. y ≡ v k) → Tabulates (λ k. cond (ltb k n) (v k) 0) ys
made_table {F} {g} {f} {ys} {n} v made each =
    made_at (λ k y. y ≡ cond (ltb k n) (v k) 0) made
    (λ k y q l h. let w = each k y q l h in (w.0, w.1 ∙ sym (cond-true _ (v k) 0 (lt-ltb k n l))))
    0 (λ k l. sym (cond-false _ (v k) 0 (le-ltb k n l)))
