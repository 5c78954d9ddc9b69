use Rattle.std.proofs.Common.{Ok, Err, refl, arith}
use Rattle.verdict.proofs.Marking.{short, tableau_place, tableau_mark}
use Rattle.verdict.proofs.mark.mark_tableau.Goals as goal

pub refused-requires : goal.refused-requires
refused-requires c =
    omega (arith, tableau_place _ _ c.in-Err.fault c.in-Err.ensures, short _ _ c.first.ensures, short _ _ c.first-2.ensures)

pub returns-in-Ok : goal.returns-in-Ok
returns-in-Ok c = rw (← c.first.ensures, ← c.first-2.ensures) (tableau_mark _ _ (Ok c.in-Ok.entries) _ c.in-Ok.ensures refl)

pub returns-in-Err : goal.returns-in-Err
returns-in-Err c = rw (← c.first.ensures, ← c.first-2.ensures) (tableau_mark _ _ (Err c.in-Err.fault) _ c.in-Err.ensures c.refused.ensures)
