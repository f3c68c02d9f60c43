-- `tree_order::compare::compare_rows`: the rows passed don't differ.
use Rattle.tree_order.proofs.Rows.{Locked}
use Rattle.tree_order.proofs.compare.compare_rows.Given as goal

abbrev pub invariant-loop-j : goal.invariant-loop-j
invariant-loop-j l = Locked l.s l.first l.at l.t l.second l.to l.j
