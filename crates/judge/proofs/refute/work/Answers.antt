use Rattle.std.proofs.Common.{◌*◌, Some, ◌∙◌, ap, drop, take, ◌≡◌, ◌/◌, [], length, map, Err, sym, refl, subst, rules, arith}
use Rattle.logic.specs.Branches.{start}
use Rattle.logic.proofs.Mapping.{mapped_ok, mapped_err}
use Rattle.judge.specs.Members.{marks_of}
use Rattle.judge.specs.Progress.{begun, Finished, Underway}
use Rattle.judge.specs.Steps.{first_steps, decoded}
use Rattle.judge.specs.Blanks.{lengths_of}
use Rattle.judge.specs.WorkingLists.{second_branch, WorkState, HoldsState}
use Rattle.judge.specs.Traces.{none, SawTrace}
use Rattle.judge.specs.declared.faults.RefuteFault.TheVariants.{AtStep}
use Rattle.judge.specs.Reasons.{StepsReason}
use Rattle.judge.specs.Taking.{TakeAnswer}
use Rattle.judge.proofs.Decoding.{steps_length, steps-take, Arrived, arrived, chunks_end}
use Rattle.judge.proofs.Halting.{shown_start, same_lengths, same_again, Before, holds_some_state, is_small, goes_on, sees_on, breaks_off}
use Rattle.judge.proofs.Marks.{marks_next}
use Rattle.judge.proofs.Standing.{Stands}
use Rattle.judge.proofs.refute.work.Given as given
use Rattle.judge.proofs.refute.work.Goals as goal
use Rattle.judge.proofs.refute.work.Goals.{In-Some, After-step_of-step}

pub loop-i-init : goal.loop-i-init
loop-i-init g c =
    let bs = c.args.bytes.now in
    let bk = g.B.ReadableBook.meaning c.args.book.now in
    let l = c.args.lists.now in
    let w = c.args.watch.now in
    let none_yet : c.into_iter-i-iterator.result.count ≡ 0 = search rules in
    record {
      size = search rules;
      room = omega (arith, none_yet);
      rest = search rules;
      marks = subst (λ n. c.unmarked-used.result.marks ≡ marks_of (first_steps n bs)) (sym none_yet) c.unmarked-used.ensures;
      same = search rules;
      transition = subst (λ n. SawTrace g.W.Watch.transition bk (lengths_of l) (first_steps n bs) w w) (sym none_yet) ([], none, refl);
      stands = subst (λ n. Stands bk (lengths_of l) (first_steps n bs) (HoldsState l) (Some c.start.result)) (sym none_yet) (start, [], begun, shown_start l c.start.result c.start.ensures);
    }

-- the chunk that comes is the next step
came : (g : given.Over) (c : In-Some g) → Arrived c.args.bytes.now c.loop-i.i-iterator.count c.in-Some.chunk.now c.next.new.self.iter.rest.now
came g c =
    let l = c.loop-i in
    let steps = c.in-Some.ensures.steps in
    arrived c.args.bytes.now l.i-iterator.count c.in-Some.chunk.now c.next.new.self.iter.rest.now (steps.0.1.1 ∙ l.invariant.size) (sym l.invariant.rest ∙ steps.0.1.0)

-- where the work stands before it
before : (g : given.Over) (c : After-step_of-step g) → Before (g.B.ReadableBook.meaning c.args.book.now) (lengths_of c.args.lists.now) c.args.bytes.now c.loop-i.i-iterator.count c.step_of-step.result c.loop-i.lists c.in-Some-open.at
before g c =
    let l = c.loop-i in
    record {
      is = c.step_of-step.ensures ∙ (came g (goal.at.After-step_of-step g c).In-Some).step;
      long = same_lengths c.args.lists.now l.lists l.invariant.same;
      stands = subst (Stands (g.B.ReadableBook.meaning c.args.book.now) (lengths_of c.args.lists.now) (first_steps l.i-iterator.count c.args.bytes.now) (HoldsState l.lists)) c.in-Some-open.is l.invariant.stands;
    }

-- the steps before it
front : (g : given.Over) (c : In-Some g) → take c.in-Some.i (decoded c.args.bytes.now) ≡ first_steps c.loop-i.i-iterator.count c.args.bytes.now
front g c =
    let bs = c.args.bytes.now in
    ap (λ i. take i (decoded bs)) c.in-Some.ensures.steps.1
    ∙ steps-take bs c.loop-i.i-iterator.count (length bs / 5) (omega (arith, (came g c).room))

-- a watcher was told them
saw_front : (g : given.Over) (c : In-Some g) → SawTrace g.W.Watch.transition (g.B.ReadableBook.meaning c.args.book.now) (lengths_of c.args.lists.now) (take c.in-Some.i (decoded c.args.bytes.now)) c.args.watch.now c.loop-i.watch
saw_front g c =
    subst (λ ss. SawTrace g.W.Watch.transition (g.B.ReadableBook.meaning c.args.book.now) (lengths_of c.args.lists.now) ss c.args.watch.now c.loop-i.watch)
    (sym (front g c)) c.loop-i.invariant.transition

pub returns-in_default-clause-worked : goal.returns-in_default-clause-worked
returns-in_default-clause-worked g c =
    let bs = c.args.bytes.now in
    let bk = g.B.ReadableBook.meaning c.args.book.now in
    let ls = lengths_of c.args.lists.now in
    let l = c.loop-i in
    let some = (goal.at.returns-in_default-clause-worked g c).In-Some in (
      omega (arith, steps_length bs (length bs / 5), (came g some).room, c.in-Some.ensures.steps.1),
      subst (Finished bk ls) (sym (front g some)) (subst (Stands bk ls (first_steps l.i-iterator.count bs) (HoldsState l.lists)) c.in_default.is l.invariant.stands),
    )

pub returns-in_default-clause-watched : goal.returns-in_default-clause-watched
returns-in_default-clause-watched g c = saw_front g (goal.at.returns-in_default-clause-watched g c).In-Some

pub take-requires : goal.take-requires
take-requires g c =
    let some = (goal.at.take-requires g c).In-Some in
    let b = before g (goal.at.take-requires g c).After-step_of-step in
    record { state = holds_some_state b; small = is_small b (omega (arith, (came g some).room, c.requires)) }

pub returns-in_err-taken-clause-worked : goal.returns-in_err-taken-clause-worked
returns-in_err-taken-clause-worked g c =
    let bs = c.args.bytes.now in
    let bk = g.B.ReadableBook.meaning c.args.book.now in
    let ls = lengths_of c.args.lists.now in
    let l = c.loop-i in
    let at = goal.at.returns-in_err-taken-clause-worked g c in
    let refused = mapped_err c.take.result c.map_err.result c.in_err-taken.field-0.0 _ c.map_err.ensures.cases c.in_err-taken.was in
    let f = refused.0 in
    let fault : c.from_residual.result ≡ Err (AtStep c.in-Some.i f) = search rules in
    rw fault
    (subst (λ i. StepsReason bk ls (decoded bs) (AtStep i f)) (sym c.in-Some.ensures.steps.1)
    (breaks_off (before g at.After-step_of-step) (length bs / 5) f (HoldsState c.take.new.lists) (omega (arith, (came g at.In-Some).room))
    (λ σ h. subst (TakeAnswer bk (lengths_of l.lists) (HoldsState c.take.new.lists) σ.branch σ.pending c.step_of-step.result) refused.1 (c.take.ensures.answer σ h))))

pub returns-in_err-taken-clause-watched : goal.returns-in_err-taken-clause-watched
returns-in_err-taken-clause-watched g c =
    let refused = mapped_err c.take.result c.map_err.result c.in_err-taken.field-0.0 _ c.map_err.ensures.cases c.in_err-taken.was in
    let fault : c.from_residual.result ≡ Err (AtStep c.in-Some.i refused.0) = search rules in
    rw fault (saw_front g (goal.at.returns-in_err-taken-clause-watched g c).In-Some)

pub loop-i-preserved : goal.loop-i-preserved
loop-i-preserved g c =
    let bs = c.args.bytes.now in
    let bk = g.B.ReadableBook.meaning c.args.book.now in
    let ls = lengths_of c.args.lists.now in
    let l = c.loop-i in
    let w = c.args.watch.now in
    let at = goal.at.loop-i-preserved g c in
    let b = before g at.After-step_of-step in
    let here = came g at.In-Some in
    let next = c.in-Some.ensures.steps.2 in
    let m = c.take.new.lists in
    let same = same_again c.args.lists.now l.lists m l.invariant.same c.take.ensures.same in
    let taken = mapped_ok c.take.result c.map_err.result c.in_ok-taken.taken _ c.map_err.ensures.cases c.in_ok-taken.was in
    let took = λ (σ : WorkState) (h : HoldsState l.lists c.in-Some-open.at σ). subst (TakeAnswer bk (lengths_of l.lists) (HoldsState m) σ.branch σ.pending c.step_of-step.result) taken (c.take.ensures.answer σ h) in
    record {
      size = c.in-Some.ensures.steps.0.0 ∙ l.invariant.size;
      room = omega (arith, here.room, next);
      rest = here.behind ∙ ap (λ k. drop (5 * k) bs) (sym next);
      marks = subst (λ k. c.note.new.self.marks ≡ marks_of (first_steps k bs)) (sym next) (marks_next bs l.i-iterator.count c.step_of-step.result l.used.marks c.note.new.self.marks b.is l.invariant.marks c.note.ensures);
      same = same;
      transition = subst (λ k. SawTrace g.W.Watch.transition bk ls (first_steps k bs) w c.taken.new.self) (sym next)
          (sees_on b m c.in_ok-taken.taken took g.W.Watch.transition w l.watch c.taken.new.self c.pending.result l.invariant.transition c.pending.ensures c.taken.ensures);
      stands = subst (λ k. Stands bk ls (first_steps k bs) (HoldsState m) c.in_ok-taken.taken.at) (sym next)
          (goes_on b m c.in_ok-taken.taken took (same_lengths c.args.lists.now m same));
    }

pub returns-in-Some-open-2-clause-worked : goal.returns-in-Some-open-2-clause-worked
returns-in-Some-open-2-clause-worked g c =
    let bs = c.args.bytes.now in
    let bk = g.B.ReadableBook.meaning c.args.book.now in
    let l = c.loop-i in
    let n = l.i-iterator.count in
    let all : n ≡ length bs / 5 = chunks_end bs n l.i-iterator.iter.rest.now l.invariant.rest l.invariant.room (omega (arith, c.in-None.ensures.steps.0.1.0, l.invariant.size)) in
    let found = subst (Stands bk (lengths_of c.args.lists.now) (first_steps n bs) (HoldsState l.lists)) c.in-Some-open-2.is l.invariant.stands in
    (sym (steps_length bs (length bs / 5)), (found.0, map second_branch found.1, subst (λ k. Underway bk (lengths_of c.args.lists.now) (first_steps k bs) found.0 (map second_branch found.1)) all found.2))
