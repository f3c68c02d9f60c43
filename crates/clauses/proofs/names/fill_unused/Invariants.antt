-- `clauses::names::fill_unused`: a number a turn.
use Rattle.clauses.proofs.Naming.{Giving}
use Rattle.clauses.proofs.names.fill_unused.Given as goal

abbrev pub invariant-loop-i : goal.invariant-loop-i
invariant-loop-i l = Giving l.used l.highest l.count l.initial.fresh l.fresh l.from l.i
