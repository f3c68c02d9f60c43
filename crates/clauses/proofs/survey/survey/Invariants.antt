-- `clauses::survey::survey`: a row a turn.
use Rattle.clauses.proofs.Surveying.{Surveying}
use Rattle.clauses.proofs.survey.survey.Given as goal

abbrev pub invariant-loop-j : goal.invariant-loop-j
invariant-loop-j l = Surveying l.s l.b l.initial.names l.names l.count l.clauses l.rows l.j l.next
