use Rattle.std.proofs.Common.{◌≡◌, ◌<◌, Err, [], length, sym, ap, ◌∙◌, arith, rules}
use Rattle.logic.specs.Written.{node_of, node_a, node_b}
use Rattle.logic.specs.Concepts.{of, read, concepts, plain}
use Rattle.logic.specs.Books.{Book}
use Rattle.logic.specs.Refusals.{node_refusal, node_unfit}
use Rattle.logic.proofs.Refusing.{node_granted}
use Rattle.sealed.specs.declared.faults.CheckFault.TheVariants.{BadRecord}
use Rattle.sealed.specs.Reading.{raw_node_at, node_start}
use Rattle.sealed.specs.Frames.{first_nodes}
use Rattle.sealed.proofs.Rows.{length-nodes_in}
use Rattle.sealed.proofs.Checking.{with_room, judged_ok, judged_err}
use Rattle.sealed.proofs.check.check_node.Goals as goal

pub returns : goal.returns
returns c =
    let f = c.args.frame.now in
    let ns = first_nodes f c.args.i in
    let cs = concepts ns in
    let bk : Book = record { nodes = ns; entries = [] } in
    let raw = c.raw_node_at-raw.result in
    let count = length-nodes_in f.bytes.now (node_start f.bytes.now f.counts.nodes f.counts.entries) c.args.i in
    let room : length ns < 512 = omega (arith, count, f.few_nodes, c.requires.within) in
    let told = c.plain_operands-plain_operands.ensures ns c.requires.marked in
    let h = judged_ok _ c.fitting_node.result c.map_err.result _ (c.fitting_node.ensures.books bk count told) c.in_ok-node.node c.map_err.ensures.cases c.in_ok-node.was in
    let granted = with_room 512 (length ns) (node_unfit bk raw) room ∙ h.0 in
    let is = c.raw_node_at-raw.ensures ∙ ap (raw_node_at f.bytes.now) c.node_place-at.ensures.place in
    let w = (node_granted bk raw granted).0 in
    let own_a = ap (λ k. plain (of cs k)) (ap node_a h.1 ∙ sym w.a) ∙ told.0 in
    let own_b = ap (λ k. plain (of cs k)) (ap node_b h.1 ∙ sym w.b) ∙ told.1 in
    (ap (node_refusal bk) (sym is) ∙ granted, c.plain_node.ensures.concept cs (own_a, own_b) ∙ ap (λ n. plain (read cs n)) (h.1 ∙ ap node_of is))

pub returns-in_err-node : goal.returns-in_err-node
returns-in_err-node c =
    let f = c.args.frame.now in
    let ns = first_nodes f c.args.i in
    let bk : Book = record { nodes = ns; entries = [] } in
    let raw = c.raw_node_at-raw.result in
    let count = length-nodes_in f.bytes.now (node_start f.bytes.now f.counts.nodes f.counts.entries) c.args.i in
    let room : length ns < 512 = omega (arith, count, f.few_nodes, c.requires.within) in
    let told = c.plain_operands-plain_operands.ensures ns c.requires.marked in
    let is = c.raw_node_at-raw.ensures ∙ ap (raw_node_at f.bytes.now) c.node_place-at.ensures.place in
    let h = judged_err _ c.fitting_node.result c.map_err.result _ (c.fitting_node.ensures.books bk count told) c.in_err-node.field-0.0 c.map_err.ensures.cases c.in_err-node.was in
    let fault : c.from_residual.result ≡ Err (BadRecord h.0 c.node_place-at.result) = search rules in
    rw fault (ap (node_refusal bk) (sym is) ∙ with_room 512 (length ns) (node_unfit bk raw) room ∙ h.2, c.node_place-at.ensures.place)
