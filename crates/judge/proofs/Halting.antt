-- The reason for which the work on steps ends. Assumes nothing.
use Rattle.std.proofs.Common.{◌≡◌, ℕ, ◌+◌, ◌<◌, List, [], ◌∷◌, ◌++◌, map, reverse, length, Some, None, Ok, Err, Option, MatchOption, sym, refl, ap, ◌∙◌, subst, arith}
use Rattle.std.specs.Borrow.{MutBor}
use Rattle.std.proofs.lemmas.List.{length-map, length-reverse}
use Rattle.std.proofs.lemmas.Fn.{FoldsTo-push}
use Rattle.logic.specs.declared.tableau.Step.{Step}
use Rattle.logic.specs.Places.{At}
use Rattle.logic.specs.Books.{Book}
use Rattle.logic.specs.Branches.{Branch, start}
use Rattle.logic.specs.Limits.{Lengths}
use Rattle.judge.specs.declared.effect.Effect.{Effect}
use Rattle.judge.specs.declared.effect.Effect.TheVariants.{Adds, AddsTwo, Links, Grows, GrowsTwo, Splits, Closes}
use Rattle.judge.specs.declared.faults.RefuteFault.TheVariants.{AtStep}
use Rattle.judge.specs.declared.step_fault.StepFault.{StepFault}
use Rattle.judge.specs.declared.step.Taken.{Taken}
use Rattle.judge.specs.declared.watch.TakenStep.{TakenStep}
use Rattle.judge.specs.declared.working.Counts.{Counts}
use Rattle.judge.specs.declared.working.Lists.{Lists}
use Rattle.judge.specs.Blanks.{no_constraint, no_edge, no_split, lengths_of, SameList, SameLists}
use Rattle.judge.specs.Steps.{step_at, first_steps}
use Rattle.judge.specs.Progress.{Room, Underway}
use Rattle.judge.specs.Reasons.{StepReason, StepsReason}
use Rattle.judge.specs.WorkingLists.{PendingSplit, second_branch, split_record, WorkState, work_state, HoldsState, SixteenBitCounts, HoldsSomeState, state_after, ReachesState}
use Rattle.judge.specs.Taking.{TakeAnswer}
use Rattle.judge.specs.Traces.{pending_after, one_more, SawTrace}
use Rattle.judge.proofs.Agreeing.{does}
use Rattle.judge.proofs.Decoding.{steps_length, steps_more, steps-take, steps_at}
use Rattle.judge.proofs.Growing.{few_underway}
use Rattle.judge.proofs.Listing.{listed_none}
use Rattle.judge.proofs.Showing.{shown_room}
use Rattle.judge.proofs.Standing.{Stands, stepped, stopped}

-- with nothing in use, lists show the individuals alone
pub shown_start : (l : Lists) (at : Counts) → at ≡ record { constraints = 0; edges = 0; splits = 0; labels = 32 } → HoldsState l at (work_state start [])
shown_start l at e =
    subst (λ v. HoldsState l v (work_state start [])) (sym e)
    (record {
      constraints = listed_none no_constraint l.constraints.now;
      edges = listed_none no_edge l.edges.now;
      splits = listed_none no_split l.splits.now;
      labels = refl;
      few = omega arith;
      prefixes = tt;
    })

-- the same lists are as long
pub same_lengths : (l m : Lists) → SameLists l m → lengths_of m ≡ lengths_of l
same_lengths l m s = λ i. record { constraints = s.constraints.long i; edges = s.edges.long i; splits = s.splits.long i }

same_list : {A : Type 0} (a b c : MutBor (List A)) → SameList a b → SameList b c → SameList a c
same_list a b c p q = record { reference = q.reference ∙ p.reference; long = q.long ∙ p.long }

pub same_again : (l m n : Lists) → SameLists l m → SameLists m n → SameLists l n
same_again l m n s t =
    record { constraints = same_list _ _ _ s.constraints t.constraints; edges = same_list _ _ _ s.edges t.edges; splits = same_list _ _ _ s.splits t.splits }

-- how many splits are pending after an effect
module _ (ls : Lengths) (m : Lists) where
  same_count : (br : Branch) (ps : List PendingSplit) (n : Option Counts) (p : ℕ) → ReachesState ls (HoldsState m) (Some (work_state br ps)) (Ok n) → MatchOption n (p ≡ 0) (λ at. p ≡ at.splits) → p ≡ length (map second_branch ps)
  same_count br ps None p h c = absurd h
  same_count br ps (Some at) p h c =
      let held : length (reverse (map split_record ps)) ≡ at.splits = h.splits.count in
      omega (arith, c, held, length-reverse (map split_record ps), length-map ps split_record, length-map ps second_branch)

  pending_counted : (e : Effect) (br : Branch) (ps : List PendingSplit) (n : Option Counts) (p : ℕ) → ReachesState ls (HoldsState m) (state_after e br ps) (Ok n) → MatchOption n (p ≡ 0) (λ at. p ≡ at.splits) → p ≡ pending_after e (length (map second_branch ps))
  pending_counted (Adds c) br ps n p h k = same_count _ ps n p h k
  pending_counted (AddsTwo c d) br ps n p h k = same_count _ ps n p h k
  pending_counted (Links e) br ps n p h k = same_count _ ps n p h k
  pending_counted (Grows x r f d) br ps n p h k = same_count _ ps n p h k
  pending_counted (GrowsTwo x r f g d) br ps n p h k = same_count _ ps n p h k
  pending_counted (Splits c d) br ps n p h k = same_count _ (record { before = br; second = d } ∷ ps) n p h k
  pending_counted Closes br [] None p h k = k
  pending_counted Closes br [] (Some at) p h k = absurd h
  pending_counted Closes br (q ∷ ps) n p h k = same_count _ ps n p h k ∙ omega arith

-- The work stands before step i of the bytes: a branch is open, and the lists hold it.
pub record Before (bk : Book) (ls : Lengths) (bs : List ℕ) (i : ℕ) (s : Step) (l : Lists) (at : Counts) : Type 0 where
  pub is : s ≡ step_at bs i
  pub long : lengths_of l ≡ ls
  pub stands : Stands bk ls (first_steps i bs) (HoldsState l) (Some at)

module _ {bk : Book} {ls : Lengths} {bs : List ℕ} {i : ℕ} {s : Step} {l : Lists} {at : Counts} (b : Before bk ls bs i s l at) where
  abbrev br : Branch
  br = b.stands.0

  abbrev ps : List PendingSplit
  ps = b.stands.1

  pub holds_some_state : HoldsSomeState l at
  holds_some_state = (work_state br ps, b.stands.3)

  -- after so few steps the counts have 16 bits
  pub is_small : i < 8192 → SixteenBitCounts at
  is_small h =
      let f = few_underway b.stands.2 in
      let n : length (first_steps i bs) ≡ i = steps_length bs i in
      let c : length br.constraints ≡ at.constraints = b.stands.3.constraints.count in
      let e : length br.edges ≡ at.edges = b.stands.3.edges.count in
      record { constraints = omega (arith, f.0); edges = omega (arith, f.1) }

  -- it is taken
  module _ (m : Lists) (t : Taken) (took : (σ : WorkState) → HoldsState l at σ → TakeAnswer bk (lengths_of l) (HoldsState m) σ.branch σ.pending s (Ok t)) where
    pub goes_on : lengths_of m ≡ ls → Stands bk ls (first_steps (i + 1) bs) (HoldsState m) t.at
    goes_on same =
        let k = took (work_state br ps) b.stands.3 in
        let after-it = stepped bk ls (first_steps i bs) s br (HoldsState m)
        (λ n σ w. subst (λ v. Room v (length σ.pending) σ.branch) same (shown_room σ.branch σ.pending n m.constraints.now m.edges.now m.splits.now w))
        t.effect ps t.at b.stands.2 k.0 (subst (λ v. ReachesState v (HoldsState m) (state_after t.effect br ps) (Ok t.at)) b.long k.1) in
        subst (λ v. Stands bk ls v (HoldsState m) t.at) (ap (λ v. first_steps i bs ++ v ∷ []) b.is ∙ sym (steps_more bs i)) after-it

    -- and what a watcher was told
    pub sees_on : {W : Type 0} (transition : W → TakenStep → W → Type 0) (first before after-it : W) (p : ℕ) → SawTrace transition bk ls (first_steps i bs) first before → MatchOption t.at (p ≡ 0) (λ n. p ≡ n.splits) → transition before (record { step = s; effect = t.effect; pending = p }) after-it → SawTrace transition bk ls (first_steps (i + 1) bs) first after-it
    sees_on transition first before after-it p d c h =
        let k = took (work_state br ps) b.stands.3 in
        let n = pending_counted (lengths_of l) m t.effect br ps t.at p k.1 c in
        let stored : TakenStep = record { step = s; effect = t.effect; pending = pending_after t.effect (length (map second_branch ps)) } in
        subst (λ v. SawTrace transition bk ls v first after-it) (ap (λ v. first_steps i bs ++ v ∷ []) b.is ∙ sym (steps_more bs i)) (
          d.0 ++ stored ∷ [],
          one_more s t.effect d.1 b.stands.2 (does bk br s t.effect k.0),
          FoldsTo-push transition first d.0 before stored after-it d.2 (subst (λ q. transition before (record { step = s; effect = t.effect; pending = q }) after-it) n h),
        )

  -- it is refused
  pub breaks_off : (n : ℕ) (f : StepFault) (InLists : Counts → WorkState → Type 0) → i < n → ((σ : WorkState) → HoldsState l at σ → TakeAnswer bk (lengths_of l) InLists σ.branch σ.pending s (Err f)) → StepsReason bk ls (first_steps n bs) (AtStep i f)
  breaks_off n f InLists h took =
      let c = stopped bk s br at l.constraints.now l.edges.now l.splits.now ps f InLists b.stands.3 (took (work_state br ps) b.stands.3) in
      record {
        current = s;
        here = subst (At (first_steps n bs) i) (sym b.is) (steps_at bs i n h);
        branch = br;
        pending = map second_branch ps;
        underway = subst (λ v. Underway bk ls v br (map second_branch ps)) (sym (steps-take bs i n (omega arith))) b.stands.2;
        because = subst (λ v. StepReason bk v f br (length (map second_branch ps)) s) b.long c;
      }
