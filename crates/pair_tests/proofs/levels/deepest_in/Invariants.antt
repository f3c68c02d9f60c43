-- `pair_tests::levels::deepest_in`: the largest level of the rows passed.
use Rattle.rows.specs.Layouts.{rows_in}
use Rattle.rows.specs.Formulas.{prefix_in}
use Rattle.pair_tests.specs.Pairs.{side}
use Rattle.pair_tests.specs.Levels.{level_by}
use Rattle.pair_tests.proofs.Deepest.{Deepening}
use Rattle.pair_tests.proofs.levels.deepest_in.Given as goal

abbrev pub invariant-loop-r : goal.invariant-loop-r
invariant-loop-r l = Deepening (level_by (side l.exists) (prefix_in l.s l.b) l.levels) (rows_in l.s l.b) l.fn.span.from l.fn.span.to l.deepest l.r
