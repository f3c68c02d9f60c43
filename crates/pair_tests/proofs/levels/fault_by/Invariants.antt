-- `pair_tests::levels::fault_by`: the pairs passed are in order, and the table has their levels.
use Rattle.rows.specs.Formulas.{prefix_in}
use Rattle.pair_tests.specs.Pairs.{side, pairs_in}
use Rattle.pair_tests.proofs.Ordered.{Levelling}
use Rattle.pair_tests.proofs.levels.fault_by.Given as goal

abbrev pub invariant-loop-j : goal.invariant-loop-j
invariant-loop-j l = Levelling (side l.exists) (prefix_in l.s l.b) (pairs_in l.s l.b) l.levels l.j
