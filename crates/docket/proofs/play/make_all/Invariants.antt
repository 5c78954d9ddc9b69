use Rattle.std.proofs.Common.{List, length, take}
use Rattle.judge.specs.Blanks.{lengths}
use Rattle.docket.specs.Events.{Event}
use Rattle.docket.specs.Runs.{Run}
use Rattle.docket.specs.Runs.{state_of}
use Rattle.docket.specs.Plays.{Played}
use Rattle.docket.proofs.play.make_all.Given as goal

abbrev pub invariant-loop-call : goal.invariant-loop-call
invariant-loop-call g l =
    (h : List Event)
    × Played g.O.Order.meaning (lengths l.initial.constraints l.initial.edges l.initial.splits) (length l.initial.sets) (take l.call-index l.calls) h
    × Run h (state_of l.docket)
