-- `trial::evaluate` meets its contract. Each jump leads forward.
use Rattle.std.proofs.Common.{◌∙◌, ◌+◌, ◌≤◌, ◌<◌, arith}
use Rattle.sheet.specs.Sheet.{trees, root}
use Rattle.rows.specs.Formulas.{node_rows_in, matrix_in}
use Rattle.rows.proofs.Formulas.{length-nodes}
use Rattle.jumps.specs.Jumps.{value_by, signed}
use Rattle.jumps.proofs.Evaluation.{value-eval, next_on, verdict_at}
use Rattle.trial.specs.Inner.Turns.{values}
use Rattle.trial.proofs.evaluate.Invariants.{Going}
use Rattle.trial.proofs.evaluate.Goals as goal
use Rattle.trial.proofs.evaluate.Goals.{After-next-i}

on : (c : After-next-i)
    → let a = c.args in
    (c.loop-i.i < c.next-i.result) × (c.next-i.result ≤ a.s.nodes + 1) ×
    Going (node_rows_in a.s a.sheet.now) a.high.now a.low.now (values a.assignment.now) c.next-i.result
on c =
    let a = c.args in
    let R = node_rows_in a.s a.sheet.now in
    let ρ = signed (values a.assignment.now) in
    next_on R a.s.nodes (length-nodes a.sheet.now c.requires.0) a.high.now a.low.now ρ (value_by (root (trees R)) ρ)
    c.loop-i.i c.next-i.result c.requires.1 c.loop-i-test.true c.loop-i.invariant.1 c.next-i.ensures

pub loop-i-smaller : goal.loop-i-smaller
loop-i-smaller c = omega (arith, (on c).0, c.loop-i.invariant.0)

pub loop-i-preserved : goal.loop-i-preserved
loop-i-preserved c = ((on c).1, (on c).2)

pub returns : goal.returns
unfolding matrix_in
returns c =
    let a = c.args in
    verdict_at _ a.s.nodes _ _ c.loop-i.i (length-nodes a.sheet.now c.requires.0) c.loop-i-test.false c.loop-i.invariant.1 ∙
    value-eval (root (trees (node_rows_in a.s a.sheet.now))) (values a.assignment.now)
