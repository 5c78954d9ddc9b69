use Rattle.std.proofs.Common.{◌≡◌, ℕ, List, [], ◌∷◌, Some, Ok, Option, Result, subst}
use Rattle.logic.specs.declared.tableau.Constraint.{Constraint}
use Rattle.logic.specs.declared.tableau.Edge.{Edge}
use Rattle.logic.specs.Branches.{constraint, edge, with, with_new}
use Rattle.judge.specs.declared.step_fault.StepFault.{StepFault}
use Rattle.judge.specs.declared.working.Counts.{Counts}
use Rattle.judge.specs.declared.working.Lists.{Lists}
use Rattle.judge.specs.Blanks.{lengths_of}
use Rattle.judge.specs.WorkingLists.{HoldsState, ReachesState, TransformsState, labelled, work_state}
use Rattle.judge.proofs.Showing.{next_label, label_more}
use Rattle.judge.proofs.working.Lists.apply.Goals as goal

-- constraints and edges that are put on the branch with a new label
with_label : (before now : Lists) (at to : Counts) (label : ℕ) (cs : ℕ → List Constraint) (es : ℕ → List Edge) (r : Result (Option Counts) StepFault) → ◌≡◌ {A = Result (ℕ × Counts) StepFault} (Ok (label, to)) (labelled at) → TransformsState before to now (λ br ps. Some (work_state (with br (cs label) (es label)) ps)) r → TransformsState before at now (λ br ps. Some (work_state (with_new br (cs br.next) (es br.next)) ps)) r
with_label before now at to label cs es r is does =
    λ σ h.
    let made = label_more σ.branch σ.pending at _ _ _ h label to is in
    subst
    (λ y. ReachesState (lengths_of before) (HoldsState now) (Some (work_state (with_new σ.branch (cs y) (es y)) σ.pending)) r)
    made.0 (does (work_state (next_label σ.branch) σ.pending) made.1)

pub returns-in_ok-label-in-Grows-clause-transforms : goal.returns-in_ok-label-in-Grows-clause-transforms
returns-in_ok-label-in-Grows-clause-transforms c =
    let e = c.in-Grows in
    let m = c.extend-in-Grows in
    rw e.is
    (with_label c.args.self.now m.new.self c.args.at c.in_ok-label-in-Grows.at c.in_ok-label-in-Grows.label (λ y. constraint y e.form e.node ∷ []) (λ y. edge e.from e.role y ∷ []) m.result c.in_ok-label-in-Grows.ensures m.ensures.transforms)

pub returns-in_ok-label-in-GrowsTwo-clause-transforms : goal.returns-in_ok-label-in-GrowsTwo-clause-transforms
returns-in_ok-label-in-GrowsTwo-clause-transforms c =
    let e = c.in-GrowsTwo in
    let m = c.extend-in-GrowsTwo in
    rw e.is
    (with_label c.args.self.now m.new.self c.args.at c.in_ok-label-in-GrowsTwo.at c.in_ok-label-in-GrowsTwo.label (λ y. constraint y e.first e.node ∷ constraint y e.second e.node ∷ []) (λ y. edge e.from e.role y ∷ []) m.result c.in_ok-label-in-GrowsTwo.ensures m.ensures.transforms)
