use Rattle.sealed.specs.Frames.{first_nodes}
use Rattle.sealed.specs.Checks.{AllGranted}
use Rattle.sealed.specs.Steps.{PlainMarks, node_refused}
use Rattle.sealed.proofs.check.check_nodes.Given as goal

abbrev pub invariant-loop-i : goal.invariant-loop-i
invariant-loop-i l = AllGranted (node_refused l.frame) l.i × PlainMarks l.marks (first_nodes l.frame l.i)
