use Rattle.std.proofs.Common.{arith}
use Rattle.verdict.proofs.Pieces.{both}
use Rattle.verdict.proofs.line.Cursor.verdict.Goals as goal

pub returns-in-Closed-clause-written : goal.returns-in-Closed-clause-written
returns-in-Closed-clause-written c = rw c.in-Closed.is (both (omega arith) c.text.ensures c.number.ensures.written)

pub returns-in-Satisfied-clause-written : goal.returns-in-Satisfied-clause-written
returns-in-Satisfied-clause-written c = rw c.in-Satisfied.is (both (omega arith) c.text-in-Satisfied.ensures c.number-in-Satisfied.ensures.written)

pub returns-in-Refused-clause-written : goal.returns-in-Refused-clause-written
returns-in-Refused-clause-written c =
    let number = both (omega arith) c.text-in-Refused.ensures c.number-in-Refused.ensures.written in
    let more = both (omega arith) number c.text-in-Refused-2.ensures in
    rw c.in-Refused.is (both (omega arith) more c.number-in-Refused-2.ensures.written)
