-- `tree_order::table::fill_sorted`: from row r on, the table has the rows of the trees from there on, each sorted.
use Rattle.tree_order.proofs.Filling.{Filling}
use Rattle.tree_order.proofs.table.fill_sorted.Given as goal

abbrev pub invariant-loop-r : goal.invariant-loop-r
invariant-loop-r l = Filling l.s l.b l.ends l.initial.spare l.r l.at l.spare
