use Rattle.std.proofs.Common.{[], refl, ⊎_elim, arith}
use Rattle.judge.specs.Traces.{none}
use Rattle.judge.proofs.Answering.{answer_length, answer_steps}
use Rattle.judge.proofs.Telling.{worked_told}
use Rattle.judge.proofs.refute.refute_watched.Goals as goal

pub returns-then-n-ne0-clause-answer : goal.returns-then-n-ne0-clause-answer
returns-then-n-ne0-clause-answer g c =
    answer_length (g.B.ReadableBook.meaning c.args.book.now) _ c.args.bytes.now (λ w. ⊎_elim (λ h. h w.whole) (λ h. omega (arith, h.1, w.few)) c.then-n-ne0.either)

pub returns-clause-answer : goal.returns-clause-answer
returns-clause-answer g c =
    let bk = g.B.ReadableBook.meaning c.args.book.now in
    let bs = c.args.bytes.now in
    answer_steps bk _ bs (g.B.ReadableBook.lawful c.args.book.now).well_formed (record { whole = c.if-n-ne0.false; few = omega arith }) c.work-answer.result
    c.work-answer.ensures.worked

pub returns-clause-number_and_place : goal.returns-clause-number_and_place
returns-clause-number_and_place g c = worked_told _ _ c.args.bytes.now c.work-answer.result c.work-answer.ensures.worked

pub returns-then-n-ne0-clause-watched : goal.returns-then-n-ne0-clause-watched
returns-then-n-ne0-clause-watched g c = ([], none, refl)
