-- The loop of `force::moves::fill_moves`: the values from row i on are left to put in.
use Rattle.rows.specs.Formulas.{prefix_in}
use Rattle.force.proofs.Filling.{Filled}
use Rattle.force.proofs.moves.fill_moves.Given as goal

abbrev pub invariant-loop-i : goal.invariant-loop-i
invariant-loop-i l = Filled (prefix_in l.s l.b) l.values l.tried l.table l.i
