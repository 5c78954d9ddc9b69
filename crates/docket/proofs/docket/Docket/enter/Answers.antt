use Rattle.std.proofs.Common.{Ok, Err, refl}
use Rattle.books.specs.Calls.{BookCall.enter}
use Rattle.logic.proofs.Mapping.{err_is}
use Rattle.docket.proofs.Calls.{one, on, book_moves}
use Rattle.docket.proofs.docket.Docket.enter.Goals as goal

pub returns-in_err-i : goal.returns-in_err-i
returns-in_err-i g c =
    rw (err_is _ c.from_residual.ensures.1, ← c.self.view_is) (one (book_moves (enter c.args.raw (Err _)) _ _ c.in_err-i.ensures.answer refl refl))

pub returns : goal.returns
returns g c = rw (← c.self.view_is) (one (book_moves (enter c.args.raw (Ok _)) _ _ c.in_ok-i.ensures.answer c.follow.ensures refl))

pub invariant_of-self-2 : goal.invariant_of-self-2
invariant_of-self-2 g c = on _ _ _ c.self.invariant (book_moves (enter c.args.raw (Ok _)) _ _ c.in_ok-i.ensures.answer c.follow.ensures refl)
