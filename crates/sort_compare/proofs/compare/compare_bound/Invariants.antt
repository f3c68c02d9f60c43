-- `sort_compare::compare::compare_bound`: the rows passed don't differ.
use Rattle.rows.specs.Formulas.{prefix_in}
use Rattle.sort_compare.proofs.Prefixes.{Passed}
use Rattle.sort_compare.proofs.compare.compare_bound.Given as goal

abbrev pub invariant-loop-r : goal.invariant-loop-r
invariant-loop-r l = Passed (prefix_in l.s l.first) (prefix_in l.t l.second) l.r
