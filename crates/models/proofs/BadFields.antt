-- What is found first among the names, the roles and the individuals is the lowest bad field.
-- Assumes nothing.
use Rattle.std.proofs.Common.{◌≡◌, ℕ, ◌+◌, ◌*◌, ◌<◌, ◌≤◌, [], length, get_or, MatchOption, Option, Some, None, refl, ap, ◌∙◌, sym, subst, inl, inr, arith}
use Rattle.std.proofs.lemmas.List.{get_or_past}
use Rattle.std.proofs.lemmas.Bool.{cases_lt, both_ways}
use Rattle.orders.specs.Masks.{has, Within}
use Rattle.orders.proofs.MaskBits.{has-zero}
use Rattle.models.specs.declared.fields.Tables.{Tables}
use Rattle.models.specs.Interpretations.{Interpretation}
use Rattle.models.specs.Tables.{by_tables}
use Rattle.models.specs.Fields.{Field, size, name, role, individual, first_byte, Good, SuccessorsWithin, FirstWithout, FirstBad, LowestBad}

-- the empty set is within every size
pub empty_within : (n set : ℕ) → set ≡ 0 → Within n set
empty_within n set e y h = absurd (both_ways _ (ap (λ s. has s y) e ∙ has-zero y) h)

module _ (t : Tables) (sized : Good (by_tables t) size) where
  abbrev I : Interpretation
  I = by_tables t

  -- past the names, the roles, the elements and the individuals nothing is said
  every_name : length t.names ≡ 64 → FirstWithout (λ a. Good I (name a)) 64 None → (a : ℕ) → Good I (name a)
  every_name count found a = elim (cases_lt a 64) [
    | inl l ↦ found a l
    | inr l ↦ empty_within t.size _ (get_or_past t.names a 0 (omega (arith, count)))
  ]

  no_role : (r x : ℕ) → get_or (get_or t.roles r []) x 0 ≡ 0 → Good I (role r x)
  no_role r x e = (empty_within t.size _ e, λ _. e)

  pub row_good : (r : ℕ) → FirstWithout (λ x. SuccessorsWithin t.size x (get_or (get_or t.roles r []) x 0)) 32 None → ((x : ℕ) → 32 ≤ x → get_or (get_or t.roles r []) x 0 ≡ 0) → (x : ℕ) → Good I (role r x)
  row_good r found past x = elim (cases_lt x 32) [
    | inl l ↦ found x l
    | inr l ↦ no_role r x (past x l)
  ]

  every_role : length t.roles ≡ 16 → ((r : ℕ) → r < 16 → (x : ℕ) → Good I (role r x)) → (r x : ℕ) → Good I (role r x)
  every_role count found r x = elim (cases_lt r 16) [
    | inl l ↦ found r l x
    | inr l ↦ no_role r x (ap (λ row. get_or row x 0) (get_or_past t.roles r [] (omega (arith, count))))
  ]

  every_individual : length t.individuals ≡ 32 → FirstWithout (λ a. Good I (individual a)) 32 None → (a : ℕ) → Good I (individual a)
  every_individual count found a = elim (cases_lt a 32) [
    | inl l ↦ found a l
    | inr l ↦ omega (arith, sized.0, get_or_past t.individuals a 0 (omega (arith, count)))
  ]

  pub bad_name : (a : ℕ) → FirstWithout (λ a. Good I (name a)) 64 (Some a) → LowestBad I (1 + 4 * a)
  bad_name a found = record { field = name a; in_bytes = found.0; stands = refl; bad = found.1; lowest = before }
    where
      before : (f : Field) → first_byte f < 1 + 4 * a → Good I f
      before size h = sized
      before (name b) h = found.2 b (omega arith)
      before (role r x) h = absurd (omega (arith, found.0))
      before (individual b) h = absurd (omega (arith, found.0))

  pub bad_role : (r x : ℕ) → r < 16 → length t.names ≡ 64 → FirstWithout (λ a. Good I (name a)) 64 None → ((q : ℕ) → q < r → (y : ℕ) → Good I (role q y)) → FirstWithout (λ x. SuccessorsWithin t.size x (get_or (get_or t.roles r []) x 0)) 32 (Some x) → LowestBad I (257 + 4 * (32 * r + x))
  bad_role r x few count named above found = record { field = role r x; in_bytes = (few, found.0); stands = refl; bad = found.1; lowest = before }
    where
      before : (f : Field) → first_byte f < 257 + 4 * (32 * r + x) → Good I f
      before size h = sized
      before (name b) h = every_name count named b
      before (role q y) h = elim (cases_lt q r) [
        | inl l ↦ above q l y
        | inr l ↦
            (let e : r ≡ q = omega (arith, found.0) in
            subst (λ q. Good I (role q y)) e (found.2 y (omega arith)))
      ]
      before (individual b) h = absurd (omega (arith, found.0))

  -- after the names and the roles, an individual or none is bad
  pub bad_individual : (found r : Option ℕ) → length t.names ≡ 64 → length t.roles ≡ 16 → length t.individuals ≡ 32 → FirstWithout (λ a. Good I (name a)) 64 None → ((r : ℕ) → r < 16 → (x : ℕ) → Good I (role r x)) → FirstWithout (λ a. Good I (individual a)) 32 found → MatchOption found (r ≡ None) (λ a. r ≡ Some (2305 + a)) → FirstBad I r
  bad_individual None r names roles individuals named successors placed e = subst (FirstBad I) (sym e) every
    where
      every : FirstBad I None
      every size = sized
      every (name a) = every_name names named a
      every (role r x) = every_role roles successors r x
      every (individual a) = every_individual individuals placed a
  bad_individual (Some a) r names roles individuals named successors placed e = subst (FirstBad I) (sym e) (record { field = individual a; in_bytes = placed.0; stands = refl; bad = placed.1; lowest = before })
    where
      before : (f : Field) → first_byte f < 2305 + a → Good I f
      before size h = sized
      before (name b) h = every_name names named b
      before (role r x) h = every_role roles successors r x
      before (individual b) h = placed.2 b (omega arith)
