use Rattle.std.proofs.Common.{Ok, Err, refl}
use Rattle.books.specs.Calls.{BookCall.node}
use Rattle.logic.proofs.Mapping.{err_is}
use Rattle.docket.proofs.Calls.{one, on, book_moves}
use Rattle.docket.proofs.docket.Docket.node.Goals as goal

pub returns-in_err-node : goal.returns-in_err-node
returns-in_err-node g c =
    rw (err_is _ c.from_residual.ensures.1, ← c.self.view_is) (one (book_moves (node c.args.raw (Err _)) _ _ c.in_err-node.ensures.answer refl refl))

pub returns : goal.returns
returns g c = rw (← c.self.view_is) (one (book_moves (node c.args.raw (Ok _)) _ _ c.in_ok-node.ensures.answer refl refl))

pub invariant_of-self-2 : goal.invariant_of-self-2
invariant_of-self-2 g c = on _ _ _ c.self.invariant (book_moves (node c.args.raw (Ok _)) _ _ c.in_ok-node.ensures.answer refl refl)
