-- A branch with its pending splits in the working lists. Only contracts of private functions use it.
-- Counted: a branch by its counts. labelled: one more label. PendingSplit: a split as the calculus has it.
-- Represents: what lists hold. WorkState: the state of the checker. HoldsState, HoldsSomeState, SixteenBitCounts: what
-- the working lists hold. state_after: the state after an effect. ReachesState, TransformsState: the code reaches it.
-- Assumes nothing.
use Rattle.std.specs.Prelude.{◌≡◌, ℕ, ◌+◌, ◌<◌, ◌≤◌, nat_lt, if◌then◌else◌, List, [], ◌∷◌, map, reverse, length, take, Some, None, Ok, Err, Option, Result}
use Rattle.logic.specs.declared.tableau.Constraint.{Constraint}
use Rattle.logic.specs.declared.tableau.Edge.{Edge}
use Rattle.logic.specs.Branches.{Branch, constraint, edge, with, with_new}
use Rattle.logic.specs.Limits.{Lengths}
use Rattle.judge.specs.declared.working.Split.{Split}
use Rattle.judge.specs.declared.working.Counts.{Counts}
use Rattle.judge.specs.declared.working.Lists.{Lists}
use Rattle.judge.specs.declared.effect.Effect.{Effect}
use Rattle.judge.specs.declared.effect.Effect.TheVariants.{Adds, AddsTwo, Links, Grows, GrowsTwo, Splits, Closes}
use Rattle.judge.specs.declared.step_fault.StepFault.{StepFault}
use Rattle.judge.specs.declared.step_fault.StepFault.TheVariants.{Full}
use Rattle.judge.specs.Blanks.{no_constraint, no_edge, no_split, lengths_of}
use Rattle.judge.specs.Lists.{Listed}
use Rattle.judge.specs.Progress.{Room}

-- how many records of each list are in use, and how many labels there are
pub record Counted (at : Counts) (br : Branch) : Type 0 where
  pub constraints : length br.constraints ≡ at.constraints
  pub edges : length br.edges ≡ at.edges
  pub labels : br.next ≡ at.labels

-- a new label and the counts with it, if the label is not above 255
abbrev pub labelled : Counts → Result (ℕ × Counts) StepFault
labelled at =
    if nat_lt at.labels 256
    then Ok (at.labels, record { constraints = at.constraints; edges = at.edges; splits = at.splits; labels = at.labels + 1 })
    else Err Full

-- the branch before a split, and the second alternative
pub record PendingSplit : Type 0 where
  pub before : Branch
  pub second : Constraint

-- the second branch
abbrev pub second_branch : PendingSplit → Branch
second_branch p = with p.before (p.second ∷ []) []

-- a pending split as the list keeps it: counts in place of the branch
abbrev pub split_record : PendingSplit → Split
split_record p = record { constraints = length p.before.constraints; edges = length p.before.edges; labels = p.before.next; second = p.second }

-- the branch of each pending split is a prefix of the branch after it
abbrev pub Prefixes : List PendingSplit → Branch → Type 0
Prefixes [] br = Unit {0}
Prefixes (p ∷ ps) br =
    (length p.before.constraints < length br.constraints)
    × (take (length p.before.constraints) br.constraints ≡ p.before.constraints)
    × (length p.before.edges ≤ length br.edges)
    × (take (length p.before.edges) br.edges ≡ p.before.edges)
    × (p.before.next ≤ br.next)
    × Prefixes ps p.before

-- the lists hold the branch and the pending splits, the latest split last
pub record Represents (br : Branch) (ps : List PendingSplit) (at : Counts) (cs : List Constraint) (es : List Edge) (ss : List Split) : Type 0 where
  pub constraints : Listed no_constraint cs at.constraints br.constraints
  pub edges : Listed no_edge es at.edges br.edges
  pub splits : Listed no_split ss at.splits (reverse (map split_record ps))
  pub labels : br.next ≡ at.labels
  pub few : at.labels ≤ 256
  pub prefixes : Prefixes ps br

-- the current branch, and the pending splits, the latest first
pub record WorkState : Type 0 where
  pub branch : Branch
  pub pending : List PendingSplit

abbrev pub work_state : Branch → List PendingSplit → WorkState
work_state br ps = record { branch = br; pending = ps }

-- the lists hold a state
abbrev pub HoldsState : Lists → Counts → WorkState → Type 0
HoldsState l at σ = Represents σ.branch σ.pending at l.constraints.now l.edges.now l.splits.now

-- they hold some state
abbrev pub HoldsSomeState : Lists → Counts → Type 0
HoldsSomeState l at = (σ : WorkState) × HoldsState l at σ

-- the counts of constraints and edges have 16 bits
pub record SixteenBitCounts (at : Counts) : Type 0 where
  pub constraints : at.constraints < 65536
  pub edges : at.edges < 65536

-- resume the latest pending split with its second alternative; None if no split is pending
abbrev pub resumed_state : List PendingSplit → Option WorkState
resumed_state [] = None
resumed_state (p ∷ ps) = Some (work_state (second_branch p) ps)

-- the state after an effect; None if the last branch is closed
abbrev pub state_after : Effect → Branch → List PendingSplit → Option WorkState
state_after (Adds c) br ps = Some (work_state (with br (c ∷ []) []) ps)
state_after (AddsTwo c d) br ps = Some (work_state (with br (c ∷ d ∷ []) []) ps)
state_after (Links e) br ps = Some (work_state (with br [] (e ∷ [])) ps)
state_after (Grows x r f n) br ps = Some (work_state (with_new br (constraint br.next f n ∷ []) (edge x r br.next ∷ [])) ps)
state_after (GrowsTwo x r f g n) br ps = Some (work_state (with_new br (constraint br.next f n ∷ constraint br.next g n ∷ []) (edge x r br.next ∷ [])) ps)
state_after (Splits c d) br ps = Some (work_state (with br (c ∷ []) []) (record { before = br; second = d } ∷ ps))
state_after Closes br ps = resumed_state ps

-- there is no room for the state
abbrev pub Overfull : Lengths → WorkState → StepFault → Type 0
Overfull ls σ f = (f ≡ Full) × (Room ls (length σ.pending) σ.branch → ⊥)

-- the code reaches the given state: the lists hold it, or there is no room for it
abbrev pub ReachesState : Lengths → (Counts → WorkState → Type 0) → Option WorkState → Result (Option Counts) StepFault → Type 0
ReachesState ls InLists None (Ok None) = Unit {0}
ReachesState ls InLists None (Ok (Some at)) = ⊥
ReachesState ls InLists None (Err f) = ⊥
ReachesState ls InLists (Some σ) (Ok None) = ⊥
ReachesState ls InLists (Some σ) (Ok (Some at)) = InLists at σ
ReachesState ls InLists (Some σ) (Err f) = Overfull ls σ f

-- from lists that hold a state, at these counts, the code reaches the state after it, or there is no room for it
abbrev pub TransformsState : Lists → Counts → Lists → (Branch → List PendingSplit → Option WorkState) → Result (Option Counts) StepFault → Type 0
TransformsState before at now to r = (σ : WorkState) → HoldsState before at σ → ReachesState (lengths_of before) (HoldsState now) (to σ.branch σ.pending) r
