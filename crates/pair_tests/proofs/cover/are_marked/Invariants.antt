-- `pair_tests::cover::are_marked`: the rows passed have their pairs.
use Rattle.rows.specs.Formulas.{prefix_in}
use Rattle.pair_tests.specs.Pairs.{side, pairs_in}
use Rattle.pair_tests.proofs.Marking.{Covered}
use Rattle.pair_tests.proofs.cover.are_marked.Given as goal

abbrev pub invariant-loop-i : goal.invariant-loop-i
invariant-loop-i l = Covered (side l.exists) (pairs_in l.s l.b) (prefix_in l.s l.b) l.i
