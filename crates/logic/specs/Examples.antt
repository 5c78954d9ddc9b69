-- What is proved of the sample books (one has a model, the other a refutation) and of a wrong hand-in.
-- after_fact to second_side: the branches of the wrong hand-in. WrongHandIn: rules permit all of its
-- steps but the last. SampleRefutation: the closed tableau, and how large it is.
-- Examples: all of this, and that both books are lawful.
-- Assumes nothing.
use Rattle.std.specs.Prelude.{◌≡◌, [], ◌∷◌}
use Rattle.logic.specs.declared.tableau.Form.TheVariants.{Holds, Fails, Bars, Admits}
use Rattle.logic.specs.Lawful.{Lawful}
use Rattle.logic.specs.Models.{Model}
use Rattle.logic.specs.Satisfaction.{Satisfies}
use Rattle.logic.specs.Branches.{Branch, start, constraint, with, Says}
use Rattle.logic.specs.Rules.{step, Extends, Splits, Closes, NoRule}
use Rattle.logic.specs.Tableaux.{Closed, writing, named_count}
use Rattle.logic.specs.Limits.{FitsLists, WithinLimits}
use Rattle.logic.specs.Samples.{sample, unsatisfiable_sample, refutation, SampleModel}

-- The branch after step 0: individual 0 holds T(release and yanked).
abbrev pub after_fact : Branch
after_fact = with start (constraint 0 Holds 5 ∷ []) []

-- after step 1: it holds release and yanked, and no better element does
abbrev pub after_typical : Branch
after_typical = with after_fact (constraint 0 Holds 4 ∷ constraint 0 Bars 4 ∷ []) []

-- after step 2: it holds release, and yanked
abbrev pub after_and : Branch
after_and = with after_typical (constraint 0 Holds 0 ∷ constraint 0 Holds 1 ∷ []) []

-- the first branch of step 3: it is no typical release
abbrev pub after_inclusion : Branch
after_inclusion = with after_and (constraint 0 Fails 3 ∷ []) []

-- the first branch of step 4: it is no release
abbrev pub first_side : Branch
first_side = with after_inclusion (constraint 0 Fails 0 ∷ []) []

-- the second branch of step 4: some better element is a release
abbrev pub second_side : Branch
second_side = with after_inclusion (constraint 0 Admits 0 ∷ []) []

-- Steps 1 2 0, 8 0 0, 4 1 0, 2 0 0, 9 5 0, 12 3 6, 12 2 6 over the sample book. Rules permit the
-- first six. The last would close a branch on which constraint 2 bars node 4 (release and yanked) and
-- constraint 6 admits node 0 (release). These are two different nodes, so no rule permits the step.
pub record WrongHandIn : Type 0 where
  pub step_0 : Extends sample start (step 1 2 0) after_fact
  pub step_1 : Extends sample after_fact (step 8 0 0) after_typical
  pub step_2 : Extends sample after_typical (step 4 1 0) after_and
  pub step_3 : Splits sample after_and (step 2 0 0) after_inclusion (with after_and (constraint 0 Holds 2 ∷ []) [])
  pub step_4 : Splits sample after_inclusion (step 9 5 0) first_side second_side
  pub step_5 : Closes sample first_side (step 12 3 6)
  pub bars : Says second_side 2 0 Bars 4
  pub admits : Says second_side 6 0 Admits 0
  pub step_6 : NoRule sample second_side (step 12 2 6)

-- the refutation is a closed tableau that names four entries, within the limits, for which lists of
-- five constraints, no edge and one split are long enough
pub record SampleRefutation : Type 0 where
  pub tableau : Closed unsatisfiable_sample start
  pub written : writing tableau ≡ refutation
  pub four : named_count (writing tableau) ≡ 4
  pub limits : WithinLimits tableau
  pub fits : FitsLists (record { constraints = 5; edges = 0; splits = 1 }) tableau

-- the first book has a model, so soundness is not vacuous; the second is refuted
pub record Examples : Type 0 where
  pub sample_lawful : Lawful sample
  pub refuted_lawful : Lawful unsatisfiable_sample
  pub model : (m : Model) × SampleModel m × Satisfies m sample
  pub refutation : SampleRefutation
  pub wrong : WrongHandIn
