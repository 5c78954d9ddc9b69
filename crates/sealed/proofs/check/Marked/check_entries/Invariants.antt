use Rattle.sealed.specs.Checks.{AllGranted}
use Rattle.sealed.specs.Steps.{entry_refused}
use Rattle.sealed.proofs.check.Marked.check_entries.Given as goal

abbrev pub invariant-loop-j : goal.invariant-loop-j
invariant-loop-j l = AllGranted (entry_refused l.self.frame) l.j
