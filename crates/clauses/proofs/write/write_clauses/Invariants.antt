-- `clauses::write::write_clauses`: a row a turn.
use Rattle.clauses.proofs.Writing.{Clausing}
use Rattle.clauses.proofs.write.write_clauses.Given as goal

abbrev pub invariant-loop-j : goal.invariant-loop-j
invariant-loop-j l = Clausing l.names l.s l.b l.to.layout l.initial.out l.initial.at l.out l.at l.j l.next
