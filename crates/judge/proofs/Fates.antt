-- What becomes of steps is determined: they are taken to the end, or refused in one way. Assumes nothing.
use Rattle.std.proofs.Common.{◌≡◌, ℕ, ◌+◌, ◌<◌, Bool, true, false, cond, ◌&&◌, leb, List, [], ◌∷◌, ◌++◌, length, get_or, take, drop, Some, None, Ok, Err, Option, Result, sym, refl, ap, ◌∙◌, ⊎_elim, arith}
use Rattle.std.proofs.lemmas.List.{append_assoc, append-nil, length_push, length-take-le, take-append-drop, drop_more}
use Rattle.std.proofs.lemmas.Bool.{cond-true, cond-false, and_from, and_parts, le-leb, leb-true}
use Rattle.logic.specs.declared.tableau.Step.{Step}
use Rattle.logic.specs.Places.{At}
use Rattle.logic.specs.Books.{Book}
use Rattle.logic.specs.Branches.{Branch, constraint, edge, start, with, with_new}
use Rattle.logic.specs.Limits.{Lengths}
use Rattle.logic.specs.Rules.{Extends, Splits, Closes}
use Rattle.judge.specs.declared.effect.Effect.{Effect}
use Rattle.judge.specs.declared.effect.Effect.TheVariants.{Adds, AddsTwo, Links, Grows, GrowsTwo, Splits as Splitting, Closes as Closing}
use Rattle.judge.specs.declared.faults.RefuteFault.{RefuteFault}
use Rattle.judge.specs.declared.faults.RefuteFault.TheVariants as fault
use Rattle.judge.specs.declared.step_fault.StepFault.{StepFault}
use Rattle.judge.specs.declared.step_fault.StepFault.TheVariants.{Full}
use Rattle.judge.specs.StepEffects.{step_effect}
use Rattle.judge.specs.Progress.{Room, Underway, begun, extended, divided, resumed, Finished, ended}
use Rattle.judge.specs.Reasons.{NoRoom, branch_full, split_full, StepReason, StepsReason}
use Rattle.judge.proofs.Agreeing.{extension, closes_decides, splits_decides, extends_decides}
use Rattle.judge.proofs.Sorting.{refuses}

-- a branch that is worked with the second branches of the pending splits, or all is closed
data Status : Type 0 where
  working : Branch → List Branch → Status
  done : Status

module _ (bk : Book) (ls : Lengths) where
  -- room, as a test
  roomy : ℕ → Branch → Bool
  roomy k b =
      leb (length b.constraints) ls.constraints
      && (leb (length b.edges) ls.edges && (leb k ls.splits && leb b.next 256))

  roomy_true : (k : ℕ) (b : Branch) → Room ls k b → roomy k b ≡ true
  unfolding roomy
  roomy_true k b r =
      and_from _ _ (le-leb _ _ r.lists.constraints) (and_from _ _ (le-leb _ _ r.lists.edges) (and_from _ _ (le-leb _ _ r.lists.splits) (le-leb _ _ r.labels)))

  room_from : (k : ℕ) (b : Branch) → roomy k b ≡ true → Room ls k b
  unfolding roomy
  room_from k b h =
      let p = and_parts _ _ h in
      let q = and_parts _ _ p.1 in
      let r = and_parts _ _ q.1 in
      record { lists = record { constraints = leb-true _ _ p.0; edges = leb-true _ _ q.0; splits = leb-true _ _ r.0 }; labels = leb-true _ _ r.1 }

  roomy_false : (k : ℕ) (b : Branch) → (Room ls k b → ⊥) → roomy k b ≡ false
  roomy_false k b n = go (roomy k b) refl
    where
      go : (v : Bool) → roomy k b ≡ v → v ≡ false
      go true h = absurd (n (room_from k b h))
      go false h = refl

  -- on with a branch, where there is room for it
  abbrev onto : Branch → List Branch → Result Status StepFault
  onto b ps = cond (roomy (length ps) b) (Ok (working b ps)) (Err Full)

  abbrev moved : Effect → Branch → List Branch → Result Status StepFault
  moved (Adds c) br ps = onto (with br (c ∷ []) []) ps
  moved (AddsTwo c d) br ps = onto (with br (c ∷ d ∷ []) []) ps
  moved (Links e) br ps = onto (with br [] (e ∷ [])) ps
  moved (Grows x r f n) br ps = onto (with_new br (constraint br.next f n ∷ []) (edge x r br.next ∷ [])) ps
  moved (GrowsTwo x r f g n) br ps = onto (with_new br (constraint br.next f n ∷ constraint br.next g n ∷ []) (edge x r br.next ∷ [])) ps
  moved (Splitting c d) br ps = onto (with br (c ∷ []) []) (with br (d ∷ []) [] ∷ ps)
  moved Closing br [] = Ok done
  moved Closing br (p ∷ ps) = Ok (working p ps)

  abbrev tried : Result Effect StepFault → Branch → List Branch → Result Status StepFault
  tried (Ok e) br ps = moved e br ps
  tried (Err f) br ps = Err f

  -- one step
  abbrev stepped : Step → Branch → List Branch → Result Status StepFault
  stepped s br ps = tried (step_effect bk br s) br ps

  moved_to : (e : Effect) (br b : Branch) (ps : List Branch) → extension e br ≡ Some b → moved e br ps ≡ onto b ps
  moved_to (Adds c) br b ps h = let p : with br (c ∷ []) [] ≡ b = cc in ap (λ v. onto v ps) p
  moved_to (AddsTwo c d) br b ps h = let p : with br (c ∷ d ∷ []) [] ≡ b = cc in ap (λ v. onto v ps) p
  moved_to (Links e) br b ps h = let p : with br [] (e ∷ []) ≡ b = cc in ap (λ v. onto v ps) p
  moved_to (Grows x r f n) br b ps h = let p : with_new br (constraint br.next f n ∷ []) (edge x r br.next ∷ []) ≡ b = cc in ap (λ v. onto v ps) p
  moved_to (GrowsTwo x r f g n) br b ps h = let p : with_new br (constraint br.next f n ∷ constraint br.next g n ∷ []) (edge x r br.next ∷ []) ≡ b = cc in ap (λ v. onto v ps) p
  moved_to (Splitting c d) br b ps h = let z : ◌≡◌ {A = ℕ} 0 1 = cc in absurd (omega arith)
  moved_to Closing br b ps h = let z : ◌≡◌ {A = ℕ} 0 1 = cc in absurd (omega arith)

  module _ (s : Step) (br : Branch) (ps : List Branch) where
    by_extends : (b : Branch) → Extends bk br s b → stepped s br ps ≡ onto b ps
    by_extends b r =
        let g = extends_decides bk br s b r in
        ap (λ v. tried v br ps) g.1 ∙ moved_to g.0 br b ps g.2

    by_splits : (l r : Branch) → Splits bk br s l r → stepped s br ps ≡ onto l (r ∷ ps)
    by_splits l r k =
        let g = splits_decides bk br s l r k in
        ap (λ v. tried v br ps) g.2 ∙ (λ i. onto (g.3 i) (g.4 i ∷ ps))

    by_closes : Closes bk br s → stepped s br ps ≡ moved Closing br ps
    by_closes r = ap (λ v. tried v br ps) (closes_decides bk br s r)

    crowded : NoRoom bk ls br (length ps) s → stepped s br ps ≡ Err Full
    crowded (branch_full {b = b} r n) = by_extends b r ∙ cond-false _ _ _ (roomy_false (length ps) b n)
    crowded (split_full {left = l} {right = r} k n) = by_splits l r k ∙ cond-false _ _ _ (roomy_false (length (r ∷ ps)) l n)

    -- a step with a reason against it is refused for it
    refused : (f : StepFault) → StepReason bk ls f br (length ps) s → stepped s br ps ≡ Err f
    refused f b =
        ⊎_elim (λ h. ap (λ v. tried v br ps) h) (λ h. crowded h.1 ∙ ap Err (sym h.0))
        (refuses bk br s ls (length ps) f b)

  abbrev carried : Result Status StepFault → ℕ → (Status → Option RefuteFault) → Option RefuteFault
  carried (Ok σ) i k = k σ
  carried (Err f) i k = Some (fault.AtStep i f)

  -- the fault of the steps from number i on
  abbrev fate : Status → ℕ → List Step → Option RefuteFault
  fate (working br ps) i [] = Some (fault.NotClosed i)
  fate done i [] = None
  fate (working br ps) i (s ∷ ss) = carried (stepped s br ps) i (λ σ. fate σ (i + 1) ss)
  fate done i (s ∷ ss) = Some (fault.AfterClosing i)

  abbrev fate_of : List Step → Option RefuteFault
  fate_of ss = fate (working start []) 0 ss

  -- steps that come to a status leave the rest to it
  abbrev Comes : List Step → Status → Type 0
  Comes ss σ = (rest : List Step) → fate_of (ss ++ rest) ≡ fate σ (length ss) rest

  one_more : (ss : List Step) (s : Step) (br : Branch) (ps : List Branch) (σ : Status) → Comes ss (working br ps) → stepped s br ps ≡ Ok σ → Comes (ss ++ s ∷ []) σ
  one_more ss s br ps σ c h rest =
      ap fate_of (append_assoc ss (s ∷ []) rest)
      ∙ c (s ∷ rest)
      ∙ ap (λ q. carried q (length ss) (λ τ. fate τ (length ss + 1) rest)) h
      ∙ ap (λ n. fate σ n rest) (sym (length_push ss s))

  comes : {ss : List Step} {br : Branch} {ps : List Branch} → Underway bk ls ss br ps → Comes ss (working br ps)
  comes begun = λ rest. refl
  comes (extended {ss = ss} {br = br} {b = b} {ps = ps} {s = s} u r room) =
      one_more ss s br ps (working b ps) (comes u) (by_extends s br ps b r ∙ cond-true _ _ _ (roomy_true (length ps) b room))
  comes (divided {ss = ss} {br = br} {left = l} {right = r} {ps = ps} {s = s} u k room) =
      one_more ss s br ps (working l (r ∷ ps)) (comes u) (by_splits s br ps l r k ∙ cond-true _ _ _ (roomy_true (length (r ∷ ps)) l room))
  comes (resumed {ss = ss} {br = br} {b = b} {ps = ps} {s = s} u r) = one_more ss s br (b ∷ ps) (working b ps) (comes u) (by_closes s br (b ∷ ps) r)

  ends : {ss : List Step} → Finished bk ls ss → Comes ss done
  ends (ended {ss = ss} {br = br} {s = s} u r) = one_more ss s br [] done (comes u) (by_closes s br [] r)

  finished_fate : (ss : List Step) → Finished bk ls ss → fate_of ss ≡ None
  finished_fate ss f = ap fate_of (sym (append-nil ss)) ∙ ends f []

  -- the steps, apart at place i
  apart : (ss : List Step) (i : ℕ) (s : Step) → At ss i s → ss ≡ take i ss ++ s ∷ drop (i + 1) ss
  apart ss i s h = sym (take-append-drop i ss) ∙ ap (λ l. take i ss ++ l) (drop_more ss i s h.within ∙ ap (λ v. v ∷ drop (i + 1) ss) h.is)

  front : (ss : List Step) (i : ℕ) → i < length ss → length (take i ss) ≡ i
  front ss i h = length-take-le i ss (omega arith)

  -- a reason decides the fate
  halted_fate : (ss : List Step) (f : RefuteFault) → StepsReason bk ls ss f → fate_of ss ≡ Some f
  halted_fate ss (fault.BadLength n) h = absurd h
  halted_fate ss (fault.AtStep i f) h =
      ap fate_of (apart ss i h.current h.here)
      ∙ comes h.underway (h.current ∷ drop (i + 1) ss)
      ∙ ap (λ q. carried q (length (take i ss)) (λ τ. fate τ (length (take i ss) + 1) (drop (i + 1) ss))) (refused h.current h.branch h.pending f h.because)
      ∙ ap (λ n. Some (fault.AtStep n f)) (front ss i h.here.within)
  halted_fate ss (fault.AfterClosing i) h =
      let s = get_or ss i (record { op = 0; a = 0; b = 0 }) in
      ap fate_of (sym (take-append-drop i ss) ∙ ap (λ l. take i ss ++ l) (drop_more ss i (record { op = 0; a = 0; b = 0 }) h.0))
      ∙ ends h.1 (s ∷ drop (i + 1) ss)
      ∙ ap (λ n. Some (fault.AfterClosing n)) (front ss i h.0)
  halted_fate ss (fault.NotClosed n) h =
      ap fate_of (sym (append-nil ss)) ∙ comes h.1.2 [] ∙ ap (λ k. Some (fault.NotClosed k)) (sym h.0)

  -- steps that are taken to the end are not refused
  pub not_both : (ss : List Step) (f : RefuteFault) → Finished bk ls ss → StepsReason bk ls ss f → ⊥
  not_both ss f d h =
      let p = sym (finished_fate ss d) ∙ halted_fate ss f h in
      let z : ◌≡◌ {A = ℕ} 0 1 = cc p in omega arith

  -- steps are refused in one way
  pub one_fault : (ss : List Step) (f g : RefuteFault) → StepsReason bk ls ss f → StepsReason bk ls ss g → f ≡ g
  one_fault ss f g h k = let p = sym (halted_fate ss f h) ∙ halted_fate ss g k in cc p
