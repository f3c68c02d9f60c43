-- `reduce::clauses::blank_literals`: the rows passed are blanked.
use Rattle.reduce.proofs.ClauseTurns.{Blanking}
use Rattle.reduce.proofs.clauses.blank_literals.Given as goal

abbrev pub invariant-loop-r : goal.invariant-loop-r
invariant-loop-r l = Blanking l.s l.b l.initial.out l.out l.from l.to l.last l.r
