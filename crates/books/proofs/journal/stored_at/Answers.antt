use Rattle.std.proofs.Common.{length, take, sym, ap, ◌∙◌, arith}
use Rattle.std.proofs.lemmas.List.{take_all}
use Rattle.logic.specs.Books.{empty, stored_at}
use Rattle.books.specs.Replay.{replay}
use Rattle.books.proofs.Replays.{replay_more}
use Rattle.books.proofs.journal.stored_at.Goals as goal

pub loop-record-preserved : goal.loop-record-preserved
loop-record-preserved c =
    let rs = c.args.records.now in
    let k = c.loop-record.record-index in
    let read = c.after_record.ensures.reads (replay empty (take k rs)) c.loop-record.invariant.0 c.loop-record.invariant.1 in
    let more = sym (replay_more rs k _ c.loop-record-test.true) in
    (read.0 ∙ ap (λ bk. stored_at bk c.args.i) more, read.1 ∙ ap (λ bk. length bk.entries) more, omega (arith, c.after_record.ensures.few))

pub returns : goal.returns
returns c =
    c.loop-record.invariant.0 ∙ ap (λ rs. stored_at (replay empty rs) c.args.i) (take_all c.loop-record.record-index c.args.records.now c.loop-record-test.false)
