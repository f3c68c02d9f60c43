-- `tidying::operator::tidy_each`: the trees from a row on are tidied.
use Rattle.std.proofs.Common.{◌≤◌}
use Rattle.rows.specs.Layouts.{total, rows_in}
use Rattle.tidying.specs.Inner.Operators.{Tidies}
use Rattle.tidying.proofs.operator.tidy_each.Given as goal

abbrev pub invariant-loop-r : goal.invariant-loop-r
invariant-loop-r l = record { behind : l.s.variables ≤ l.r; tidied : Tidies (rows_in l.s l.initial.b) (rows_in l.s l.b) l.known l.r (total l.s) }
