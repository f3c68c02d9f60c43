-- `trial::row_value` meets its contract.
use Rattle.std.proofs.Common.{ap, nat_eq, get_or}
use Rattle.std.specs.Bool.{beq}
use Rattle.sheet.specs.Format.{row}
use Rattle.rows.specs.Formulas.{node_rows_in}
use Rattle.jumps.specs.Jumps.{signed}
use Rattle.jumps.proofs.Rows.{kind_row, argument_row}
use Rattle.jumps.proofs.Evaluation.{value-literal, value_operator}
use Rattle.trial.specs.Inner.Turns.{values}
use Rattle.trial.proofs.row_value.Goals as goal

pub returns-then-kind-le-NEGATIVE : goal.returns-then-kind-le-NEGATIVE
returns-then-kind-le-NEGATIVE c =
    let a = c.args in
    let positive = nat_eq c.kind_at-kind.result 3 in
    value-literal (get_or (node_rows_in a.s a.sheet.now) a.i (row 0 0)) (signed (values a.assignment.now)) c.kind_at-kind.result
    c.argument_at.result (beq positive c.value_of-value.result) (kind_row a.sheet.now c.requires.0 a.i c.requires.1 c.kind_at-kind.ensures)
    (argument_row a.sheet.now c.requires.0 a.i c.requires.1 c.argument_at.ensures.0) (ap (beq positive) c.value_of-value.ensures)
    c.if-kind-le-NEGATIVE.true

pub returns : goal.returns
returns c =
    let a = c.args in
    value_operator (get_or (node_rows_in a.s a.sheet.now) a.i (row 0 0)) (signed (values a.assignment.now)) _
    (kind_row a.sheet.now c.requires.0 a.i c.requires.1 c.kind_at-kind.ensures) c.if-kind-le-NEGATIVE.false
