use Rattle.std.proofs.Common.{◌≤◌, length, subst, arith}
use Rattle.models.specs.Views.{view_meaning}
use Rattle.models.specs.Extensions.{SetOfNode}
use Rattle.models.specs.NodeMasks.{MaskOfNode}
use Rattle.judge.proofs.ShowFill.{blank_zeros, filled_none, filled_more, all_masks, all_sets}
use Rattle.judge.proofs.fill.fill.Goals as goal

pub loop-i-init : goal.loop-i-init
loop-i-init g c = filled_none (g.B.ReadableBook.meaning c.args.book.now) (g.B.ReadableBook.lawful c.args.book.now).well_formed (view_meaning c.args.view.now) (g.O.Order.meaning c.args.order.now) _ (blank_zeros _ _ c.clear.ensures)

pub loop-i-preserved : goal.loop-i-preserved
loop-i-preserved g c =
    let bk = g.B.ReadableBook.meaning c.args.book.now in
    let lawful = (g.B.ReadableBook.lawful c.args.book.now).well_formed in
    let i = view_meaning c.args.view.now in
    let o = g.O.Order.meaning c.args.order.now in
    let list = c.loop-i.list in
    let v = c.extension.result in
    filled_more bk lawful i o c.loop-i.i v list (omega (arith, c.node_count-count.ensures)) (omega arith) c.loop-i.invariant
    (subst (λ n. MaskOfNode i o list n v) c.node_at.ensures c.extension.ensures.mask)
    (subst (λ n. SetOfNode i o list n v) c.node_at.ensures c.extension.ensures.set)

pub returns : goal.returns
returns g c =
    let bk = g.B.ReadableBook.meaning c.args.book.now in
    let lawful = (g.B.ReadableBook.lawful c.args.book.now).well_formed in
    let i = view_meaning c.args.view.now in
    let o = g.O.Order.meaning c.args.order.now in
    let k = c.loop-i.i in
    let list = c.loop-i.list in
    let room : length bk.nodes ≤ length list = omega (arith, c.node_count-count.ensures) in
    let done : length bk.nodes ≤ k = omega (arith, c.node_count-count.ensures) in
    let within : k ≤ length bk.nodes = omega (arith, c.node_count-count.ensures) in
    (room, all_masks bk lawful i o k list done within c.loop-i.invariant, all_sets bk lawful i o k list done within c.loop-i.invariant)
