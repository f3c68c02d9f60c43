-- `pair_tests::levels::deepest_in` meets its contract.
use Rattle.std.proofs.Common.{arith}
use Rattle.rows.specs.Formulas.{prefix_in}
use Rattle.pair_tests.specs.Pairs.{side}
use Rattle.pair_tests.specs.Levels.{level_by}
use Rattle.pair_tests.proofs.Deepest.{deepening_none, deepening_on, larger-max}
use Rattle.pair_tests.proofs.levels.deepest_in.Goals as goal

pub loop-r-init : goal.loop-r-init
loop-r-init c =
    let a = c.args in
    deepening_none (level_by (side a.exists) (prefix_in a.s a.b.now) a.levels.now) a.b.now
    c.requires.0.numbered.readable.room c.requires.1.ordered c.requires.1.inside

pub loop-r-preserved : goal.loop-r-preserved
loop-r-preserved c =
    let a = c.args in
    deepening_on (level_by (side a.exists) (prefix_in a.s a.b.now) a.levels.now) a.b.now
    c.requires.0.numbered.readable.room c.requires.1.ordered c.requires.1.inside (omega arith) c.loop-r-test.true c.loop-r.invariant
    c.row_level.ensures (omega (arith, c.max-deepest.ensures, larger-max c.row_level.result c.loop-r.deepest))
