-- The goals of `certify::initial::next`. Assumes nothing.
use Rattle.rows.specs.Formulas.{node_rows_in}
use Rattle.jumps.proofs.Rows.{children-row}
use Rattle.jumps.proofs.Evaluation.{next_child, next-high, next_low}
use Rattle.certify.specs.Inner.Initial.{valued}
use Rattle.certify.proofs.initial.next.Goals as goal

pub returns-then-children_at-ne0 : goal.returns-then-children_at-ne0
returns-then-children_at-ne0 c =
    let a = c.args in
    next_child (node_rows_in a.q.layout a.sheet.now) a.high.now a.low.now (valued a.q.verdict a.marks.now) a.i c.children_at.result
    (children-row a.sheet.now c.requires.0.readable a.i c.requires.2 c.children_at.ensures.0) c.if-children_at-ne0.true

pub returns-then-row_value : goal.returns-then-row_value
returns-then-row_value c =
    let a = c.args in
    next-high (node_rows_in a.q.layout a.sheet.now) a.high.now a.low.now (valued a.q.verdict a.marks.now) a.i c.children_at.result
    (children-row a.sheet.now c.requires.0.readable a.i c.requires.2 c.children_at.ensures.0) c.if-children_at-ne0.false
    c.row_value.result c.row_value.ensures c.to_row.result c.if-row_value.true c.to_row.ensures

pub returns : goal.returns
returns c =
    let a = c.args in
    next_low (node_rows_in a.q.layout a.sheet.now) a.high.now a.low.now (valued a.q.verdict a.marks.now) a.i c.children_at.result
    (children-row a.sheet.now c.requires.0.readable a.i c.requires.2 c.children_at.ensures.0) c.if-children_at-ne0.false
    c.row_value.result c.row_value.ensures c.to_row-2.result c.if-row_value.false c.to_row-2.ensures
