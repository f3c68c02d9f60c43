-- `substitution::change::first_changed`: the rows passed stay.
use Rattle.substitution.specs.Output.{Stays}
use Rattle.substitution.proofs.change.first_changed.Given as goal

abbrev pub invariant-loop-r : goal.invariant-loop-r
invariant-loop-r l = Stays l.s l.b l.table l.span.from l.r
