-- `subtrees::ends::fill_ends`: from row i on the table is filled, and past the node rows it is kept.
use Rattle.rows.specs.Formulas.{node_rows_in}
use Rattle.subtrees.proofs.Table.{Filling}
use Rattle.subtrees.proofs.ends.fill_ends.Given as goal

abbrev pub invariant-loop-i : goal.invariant-loop-i
invariant-loop-i l = Filling (node_rows_in l.s l.b) l.s.nodes l.initial.ends l.i l.ends
