-- `substitution::change::last_changed`: the rows passed stay.
use Rattle.std.proofs.Common.{◌≤◌}
use Rattle.substitution.specs.Output.{Stays}
use Rattle.substitution.proofs.change.last_changed.Given as goal

abbrev pub invariant-loop-r : goal.invariant-loop-r
invariant-loop-r l = record { ahead : l.span.from ≤ l.r; stays : Stays l.s l.b l.table l.r l.span.to }
