use Rattle.std.proofs.Common.{◌≡◌, ◌*◌, ◌≤◌, length, drop}
use Rattle.judge.specs.Members.{marks_of}
use Rattle.judge.specs.Steps.{first_steps}
use Rattle.judge.specs.Blanks.{SameLists, lengths_of}
use Rattle.judge.specs.WorkingLists.{HoldsState}
use Rattle.judge.specs.Traces.{SawTrace}
use Rattle.judge.proofs.Standing.{Stands}
use Rattle.judge.proofs.refute.work.Given as goal

abbrev pub invariant-loop-i : goal.invariant-loop-i
invariant-loop-i g l =
    let done = first_steps l.i-iterator.count l.bytes in
    record {
      size : l.i-iterator.iter.size ≡ 5;
      room : 5 * l.i-iterator.count ≤ length l.bytes;
      rest : l.i-iterator.iter.rest.now ≡ drop (5 * l.i-iterator.count) l.bytes;
      marks : l.used.marks ≡ marks_of done;
      same : SameLists l.initial.lists l.lists;
      transition : SawTrace g.W.Watch.transition (g.B.ReadableBook.meaning l.book) (lengths_of l.initial.lists) done l.initial.watch l.watch;
      stands : Stands (g.B.ReadableBook.meaning l.book) (lengths_of l.initial.lists) done (HoldsState l.lists) l.open;
    }
