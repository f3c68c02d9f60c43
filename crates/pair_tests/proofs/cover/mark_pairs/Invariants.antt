-- `pair_tests::cover::mark_pairs`: the pairs passed are of the side, met once, and marked.
use Rattle.rows.specs.Formulas.{prefix_in}
use Rattle.pair_tests.specs.Pairs.{side, pairs_in}
use Rattle.pair_tests.proofs.Marking.{Marking}
use Rattle.pair_tests.proofs.cover.mark_pairs.Given as goal

abbrev pub invariant-loop-j : goal.invariant-loop-j
invariant-loop-j l = Marking (side l.exists) (prefix_in l.s l.b) (pairs_in l.s l.b) l.seen l.j
