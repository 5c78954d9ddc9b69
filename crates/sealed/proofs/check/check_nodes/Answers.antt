use Rattle.std.proofs.Common.{◌<◌, true, length, replicate, sym, subst, arith}
use Rattle.sealed.specs.Reading.{node_start}
use Rattle.sealed.specs.Frames.{first_nodes}
use Rattle.sealed.specs.Steps.{PlainMarks, node_refused}
use Rattle.sealed.proofs.Rows.{nodes_in_none, nodes_in_more, length-nodes_in}
use Rattle.sealed.proofs.Checking.{no_marks, marks_more, granted_more}
use Rattle.sealed.proofs.check.check_nodes.Goals as goal

pub loop-i-init : goal.loop-i-init
loop-i-init c =
    let f = c.args.frame in
    ((λ k h. absurd (omega arith)), subst (PlainMarks (replicate 512 true)) (sym (nodes_in_none f.bytes.now (node_start f.bytes.now f.counts.nodes f.counts.entries))) (no_marks 512))

pub loop-i-preserved : goal.loop-i-preserved
loop-i-preserved c =
    let f = c.args.frame in
    let from = node_start f.bytes.now f.counts.nodes f.counts.entries in
    let i = c.loop-i.i in
    let h = c.in_ok-marks.ensures in
    let room : i < length c.loop-i.marks = omega (arith, f.few_nodes) in
    (granted_more (node_refused f) i c.loop-i.invariant.0 h.0, subst (PlainMarks _) (sym (nodes_in_more f.bytes.now from i)) (marks_more c.loop-i.marks (first_nodes f i) _ i c.in_ok-marks.field-0 room (length-nodes_in f.bytes.now from i) h.1 c.loop-i.invariant.1))
