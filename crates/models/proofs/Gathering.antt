-- Which elements a mask has that is gathered from a property. Assumes nothing.
use Rattle.std.proofs.Common.{◌≡◌, ℕ, ◌<◌, ◌≤◌, min, Bool, true, not, ◌&&◌, Decides, sym, ap, ◌∙◌, inl, inr, arith}
use Rattle.std.proofs.lemmas.Bool.{cases_Bool, not-true, not_from_false, and_parts, and_from, lt-ltb, both_ways}
use Rattle.std.proofs.lemmas.Bool.Decides.{Decides-at, Decides-like, Decides-not, Decides-and, Decides-ltb}
use Rattle.orders.specs.Masks.{has, mask_of, meeting, Preference, Strict}
use Rattle.orders.proofs.MaskBits.{mask_has, meeting_decides, never}
use Rattle.models.specs.Interpretations.{Interpretation}
use Rattle.models.specs.Fields.{role, Valid}
use Rattle.models.specs.Extensions.{Complement, SomeSuccessorIn, BestOf}
use Rattle.models.specs.NodeMasks.{AllSuccessorsIn}

-- an element is in the mask exactly where it is below the size and has the property
gathered_decides : {Q : Type 0} (p : ℕ → Bool) (n mask x : ℕ) → n ≤ 32 → mask ≡ mask_of p (min n 32) → Decides (p x) Q → Decides (has mask x) ((x < n) × Q)
gathered_decides p n mask x few e d =
    let cut : min n 32 ≡ n = omega arith in
    Decides-at _ _ (ap (λ m. has m x) e ∙ ap (λ k. has (mask_of p k) x) cut ∙ mask_has p n x) (Decides-and _ _ (Decides-ltb x n) d)

pub leading_means : (i : Interpretation) → i.size ≤ 32 → (r set mask : ℕ) → mask ≡ mask_of (λ x. meeting (i.successors r x) set) (min i.size 32) → SomeSuccessorIn i r set mask
leading_means i few r set mask e x = gathered_decides (λ x. meeting (i.successors r x) set) i.size mask x few e (meeting_decides (i.successors r x) set)

-- what is not in the elements that lead out of a set are those that lead only into it
pub only_means : (i : Interpretation) → Valid i → (r set out some mask : ℕ) → Complement i set out → SomeSuccessorIn i r out some → Complement i some mask → AllSuccessorsIn i r set mask
only_means i valid r set out some mask outside leads rest x =
    let n = i.size in
    Decides-like (has mask x)
    (λ p. (
      p.0,
      λ y t. elim (cases_Bool (has set y)) [
        | inl e ↦ e
        | inr e ↦ absurd (p.1 (p.0, (y, t, outside y ∙ and_from _ _ (lt-ltb y n ((valid (role r x)).0 y t)) (not_from_false _ e))))
      ],
    ))
    (λ p. (p.0, λ q. both_ways _ (not-true _ (and_parts _ _ (sym (outside q.1.0) ∙ q.1.2)).1) (p.1 q.1.0 q.1.1)))
    (Decides-at _ _ (rest x) (Decides-and _ _ (Decides-ltb x n) (Decides-not _ (leads x))))

pub best_means : (o : Preference) → Strict o → (set mask : ℕ) → mask ≡ mask_of (λ x. has set x && not (meeting (o.better x) set)) (min o.size 32) → BestOf o set mask
best_means o s set mask e x =
    let better = meeting_decides (o.better x) set in
    let Alone : Type 0 = (has set x ≡ true) × ((y : ℕ) → has (o.better x) y ≡ true → has set y ≡ true → ⊥) in
    let alone : Decides (has set x && not (meeting (o.better x) set)) Alone = (
      λ t. (let p = and_parts _ _ t in (p.0, λ y h k. both_ways _ (not-true _ p.1) (better.1 (y, h, k)))),
      λ h. and_from _ _ h.0 (not_from_false _ (never _ (λ t. let w = better.0 t in h.1 w.0 w.1 w.2))),
    ) in
    Decides-like (has mask x)
    (λ h. record { within = h.0; member = h.1.0; none_better = h.1.1 })
    (λ b. (b.within, (b.member, b.none_better)))
    (gathered_decides {Q = Alone} (λ x. has set x && not (meeting (o.better x) set)) o.size mask x s.few e alone)
