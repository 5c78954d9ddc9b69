use Rattle.std.proofs.lemmas.Result.{err_from_is_err_and}
use Rattle.verdict.proofs.mark.refuted.Goals as goal

pub returns-in_err-used : goal.returns-in_err-used
returns-in_err-used c =
    let err = err_from_is_err_and c.from_residual-in_err-used.result c.from_residual-in_err-used.ensures.1 in
    rw (err.1, err.2) (_, c.in_ok-book.ensures.granted, c.in_err-used.ensures.answer)
