-- `reduce::clauses::last_existential`: the rows to come have the greatest of what is left.
use Rattle.reduce.proofs.ClauseTurns.{Lasting}
use Rattle.reduce.proofs.clauses.last_existential.Given as goal

abbrev pub invariant-loop-r : goal.invariant-loop-r
invariant-loop-r l = Lasting l.s l.b l.from l.to l.last l.r
