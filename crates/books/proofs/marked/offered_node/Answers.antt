use Rattle.std.proofs.Common.{Ok, rules}
use Rattle.books.specs.Marks.{NodeOffered}
use Rattle.books.proofs.Exact.{node_exact}
use Rattle.books.proofs.marked.offered_node.Goals as goal

pub returns-in_err-node-clause-exact : goal.returns-in_err-node-clause-exact
returns-in_err-node-clause-exact g c =
    let book = c.args.book.now in
    let refused = c.from_residual.result in
    let offered : NodeOffered (g.B.ReadableBook.meaning book) c.args.raw refused = search rules in
    node_exact (g.B.ReadableBook.meaning book) (g.B.ReadableBook.lawful book) c.args.raw refused offered

pub returns-clause-exact : goal.returns-clause-exact
returns-clause-exact g c =
    let book = c.args.book.now in
    let granted = Ok (record { node = c.in_ok-node.node; plain = c.plain_node-plain.result }) in
    let offered : NodeOffered (g.B.ReadableBook.meaning book) c.args.raw granted = search rules in
    node_exact (g.B.ReadableBook.meaning book) (g.B.ReadableBook.lawful book) c.args.raw granted offered
