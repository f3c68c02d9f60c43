-- `pair_tests::cover::covers` meets its contract.
use Rattle.std.proofs.Common.{refl, ◌∙◌}
use Rattle.rows.specs.Formulas.{prefix_in}
use Rattle.pair_tests.specs.Pairs.{side, pairs_in}
use Rattle.pair_tests.proofs.Marking.{none-marked, covering_fails, covering_by}
use Rattle.pair_tests.proofs.cover.covers.Goals as goal

pub mark_pairs-requires : goal.mark_pairs-requires
mark_pairs-requires c = (c.requires.0, c.requires.1, none-marked 1025, refl)

pub returns-then-mark_pairs : goal.returns-then-mark_pairs
returns-then-mark_pairs c =
    let a = c.args in
    covering_by (side a.exists) (prefix_in a.s a.b.now) (pairs_in a.s a.b.now) c.mark_pairs.ensures.value c.if-mark_pairs.true c.are_marked.ensures

pub returns-else-mark_pairs : goal.returns-else-mark_pairs
returns-else-mark_pairs c =
    let a = c.args in
    c.if-mark_pairs.false ∙
    covering_fails (side a.exists) (prefix_in a.s a.b.now) (pairs_in a.s a.b.now) c.mark_pairs.ensures.value c.if-mark_pairs.false
