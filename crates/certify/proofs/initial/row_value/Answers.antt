-- The goals of `certify::initial::row_value`. Assumes nothing.
use mathlib.Core.Bool.{beq}
use Rattle.std.proofs.Common.{ap, slice_index_or}
use Rattle.sheet.specs.Format.{row}
use Rattle.rows.specs.Formulas.{node_rows_in}
use Rattle.jumps.proofs.Rows.{kind_row, argument_row}
use Rattle.jumps.proofs.Evaluation.{value-literal, value_operator}
use Rattle.certify.specs.Inner.Initial.{valued}
use Rattle.certify.proofs.initial.row_value.Goals as goal

pub returns-then-kind-le-NEGATIVE : goal.returns-then-kind-le-NEGATIVE
returns-then-kind-le-NEGATIVE c =
    let a = c.args in
    let b = a.sheet.now in
    value-literal (slice_index_or (node_rows_in a.q.layout b) a.i (row 0 0)) (valued a.q.verdict a.marks.now) _ _ _
    (kind_row b c.requires.0 a.i c.requires.2 c.kind_at-kind.ensures)
    (argument_row b c.requires.0 a.i c.requires.2 c.argument_at-x.ensures.0)
    (ap (λ r. beq r a.q.verdict) c.is_marked.ensures) c.if-kind-le-NEGATIVE.true

pub returns : goal.returns
returns c =
    let a = c.args in
    let b = a.sheet.now in
    value_operator (slice_index_or (node_rows_in a.q.layout b) a.i (row 0 0)) (valued a.q.verdict a.marks.now) _
    (kind_row b c.requires.0 a.i c.requires.2 c.kind_at-kind.ensures) c.if-kind-le-NEGATIVE.false
