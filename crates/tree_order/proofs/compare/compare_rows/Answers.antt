-- `tree_order::compare::compare_rows` meets its contract.
use Rattle.std.proofs.Common.{sym, ap₂, ◌∙◌, arith}
use Rattle.tree_order.specs.Rows.{compare_row}
use Rattle.tree_order.specs.Tables.{row_in}
use Rattle.tree_order.proofs.Rows.{locked_differ, locked_on, locked_out}
use Rattle.tree_order.proofs.compare.compare_rows.Goals as goal

pub returns-then-is_ne : goal.returns-then-is_ne
returns-then-is_ne c =
    let a = c.args in
    locked_differ a.s a.first.now a.at.now a.t a.second.now a.to.now c.loop-j.j c.compare_row-o.result (omega (arith, c.min-j-end.ensures))
    (omega (arith, c.min-j-end.ensures)) c.loop-j.invariant
    (c.compare_row-o.ensures ∙
    ap₂ (λ p q. compare_row (row_in a.s a.first.now p) (row_in a.t a.second.now q)) c.from.ensures c.from-in-loop-j.ensures)
    (sym c.is_ne.ensures ∙ c.if-is_ne.true)

pub loop-j-preserved : goal.loop-j-preserved
loop-j-preserved c =
    let a = c.args in
    locked_on a.s a.first.now a.at.now a.t a.second.now a.to.now c.loop-j.j c.compare_row-o.result (omega arith) (omega (arith, c.min-j-end.ensures))
    (omega (arith, c.min-j-end.ensures)) c.loop-j.invariant
    (c.compare_row-o.ensures ∙
    ap₂ (λ p q. compare_row (row_in a.s a.first.now p) (row_in a.t a.second.now q)) c.from.ensures c.from-in-loop-j.ensures)
    (sym c.is_ne.ensures ∙ c.if-is_ne.false)

pub returns : goal.returns
returns c =
    let a = c.args in
    locked_out a.s a.first.now a.at.now a.t a.second.now a.to.now c.loop-j.j c.min-j-end.ensures c.loop-j-test.false c.loop-j.invariant
