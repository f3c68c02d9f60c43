-- `clauses::write::write_bound`: a row a turn.
use Rattle.clauses.proofs.Writing.{Binding}
use Rattle.clauses.proofs.write.write_bound.Given as goal

abbrev pub invariant-loop-name : goal.invariant-loop-name
invariant-loop-name l = Binding l.fresh l.to.layout l.initial.out l.initial.at l.out l.at l.name-index
