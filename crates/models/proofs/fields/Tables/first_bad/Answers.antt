use Rattle.std.proofs.Common.{sym, subst, arith, rules, below_more}
use Rattle.models.specs.Tables.{by_tables}
use Rattle.models.specs.Fields.{LowestBad}
use Rattle.models.proofs.BadFields.{row_good, bad_name, bad_role, bad_individual}
use Rattle.models.proofs.fields.Tables.first_bad.Goals as goal

pub returns-in-Some : goal.returns-in-Some
returns-in-Some c =
    subst (LowestBad (by_tables c.args.self.now)) (sym c.name_place.ensures) (bad_name c.args.self.now (omega arith, omega arith) c.in-Some.a c.in-Some.ensures)

pub returns-in-Some-first_bad_row : goal.returns-in-Some-first_bad_row
returns-in-Some-first_bad_row c =
    subst (LowestBad (by_tables c.args.self.now)) (sym c.role_place.ensures)
    (bad_role c.args.self.now (omega arith, omega arith) c.loop-r.r c.in-Some-first_bad_row.x c.loop-r-test.true (omega arith)
    c.in_default.ensures c.loop-r.invariant c.in-Some-first_bad_row.ensures.lowest)

pub loop-r-preserved : goal.loop-r-preserved
loop-r-preserved c =
    below_more _ _ c.loop-r.invariant
    (row_good c.args.self.now (omega arith, omega arith) c.loop-r.r c.in_default-first_bad_row.ensures.lowest c.in_default-first_bad_row.ensures.past)

pub returns : goal.returns
returns c =
    bad_individual c.args.self.now (omega arith, omega arith) c.first_individual.result c.map.result (omega arith) (omega arith) (omega arith)
    c.in_default.ensures (λ r l. c.loop-r.invariant r (omega arith)) c.first_individual.ensures (search rules)
