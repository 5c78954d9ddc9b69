use Rattle.std.proofs.Common.{[], refl}
use Rattle.docket.proofs.Law.{run_new}
use Rattle.docket.proofs.docket.Docket.new.Goals as goal

pub returns : goal.returns
returns g c = run_new _ c.in_ok-book.ensures refl c.new-2.ensures

pub invariant_of-result : goal.invariant_of-result
invariant_of-result g c = ([], run_new _ c.in_ok-book.ensures refl c.new-2.ensures)
