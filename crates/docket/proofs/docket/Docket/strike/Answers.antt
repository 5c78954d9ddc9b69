use Rattle.std.proofs.Common.{Ok, Err, refl}
use Rattle.books.specs.Calls.{BookCall.strike}
use Rattle.logic.proofs.Mapping.{err_is}
use Rattle.docket.proofs.Calls.{one, on, book_moves}
use Rattle.docket.proofs.docket.Docket.strike.Goals as goal

pub returns-in_err-strike : goal.returns-in_err-strike
returns-in_err-strike g c =
    rw (err_is _ c.from_residual.ensures.1, ← c.self.view_is) (one (book_moves (strike c.args.i (Err _)) _ _ c.in_err-strike.ensures refl refl))

pub returns : goal.returns
returns g c =
    rw (← c.self.view_is) (one (book_moves (strike c.args.i (Ok tt)) _ _ c.in_ok-strike.ensures (rw (← c.has.ensures) c.follow.ensures) refl))

pub invariant_of-self-2 : goal.invariant_of-self-2
invariant_of-self-2 g c =
    on _ _ _ c.self.invariant (book_moves (strike c.args.i (Ok tt)) _ _ c.in_ok-strike.ensures (rw (← c.has.ensures) c.follow.ensures) refl)
