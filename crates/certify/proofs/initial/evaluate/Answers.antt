-- The goals of `certify::initial::evaluate`. Assumes nothing.
use Rattle.std.proofs.Common.{arith}
use Rattle.sheet.specs.Sheet.{trees, root}
use Rattle.rows.specs.Formulas.{node_rows_in, matrix_in}
use Rattle.rows.proofs.Formulas.{length-nodes}
use Rattle.jumps.specs.Jumps.{value_by}
use Rattle.jumps.proofs.Evaluation.{next_on, verdict_at}
use Rattle.certify.specs.Inner.Initial.{valued}
use Rattle.certify.proofs.initial.evaluate.Goals as goal

pub loop-i-smaller : goal.loop-i-smaller
loop-i-smaller c =
    let a = c.args in
    let rows = node_rows_in a.q.layout a.sheet.now in
    let values = valued a.q.verdict a.marks.now in
    let on =
    next_on rows a.q.layout.nodes (length-nodes a.sheet.now c.requires.0.readable) a.high.now a.low.now values (value_by (root (trees rows)) values)
    c.loop-i.i c.next-i.result c.requires.0.jumps c.loop-i-test.true c.loop-i.invariant.1 c.next-i.ensures in
    omega (arith, on.0, c.loop-i.invariant.0)

pub loop-i-preserved : goal.loop-i-preserved
loop-i-preserved c =
    let a = c.args in
    let rows = node_rows_in a.q.layout a.sheet.now in
    let values = valued a.q.verdict a.marks.now in
    let on =
    next_on rows a.q.layout.nodes (length-nodes a.sheet.now c.requires.0.readable) a.high.now a.low.now values (value_by (root (trees rows)) values)
    c.loop-i.i c.next-i.result c.requires.0.jumps c.loop-i-test.true c.loop-i.invariant.1 c.next-i.ensures in
    (on.1, on.2)

pub returns : goal.returns
unfolding matrix_in
returns c =
    verdict_at _ c.args.q.layout.nodes _ _ c.loop-i.i (length-nodes c.args.sheet.now c.requires.0.readable) c.loop-i-test.false c.loop-i.invariant.1
