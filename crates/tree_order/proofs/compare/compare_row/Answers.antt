-- `tree_order::compare::compare_row` meets its contract.
use Rattle.std.proofs.Common.{ap₂, ◌∙◌}
use Rattle.std.specs.Ordering.{nat_cmp}
use Rattle.tree_order.specs.Tables.{row_in}
use Rattle.tree_order.proofs.Rows.{kind_in, argument_in, row_compared}
use Rattle.tree_order.proofs.compare.compare_row.Goals as goal

pub returns : goal.returns
returns c =
    let a = c.args in
    row_compared (row_in a.s a.first.now a.i) (row_in a.t a.second.now a.j)
    (c.kind_at-k.ensures ∙ kind_in a.s a.first.now a.i) (c.kind_at-l.ensures ∙ kind_in a.t a.second.now a.j)
    (c.argument_at-m.ensures.0 ∙ argument_in a.s a.first.now a.i) (c.argument_at-n.ensures.0 ∙ argument_in a.t a.second.now a.j)
    (c.cmp.ensures ∙ ap₂ nat_cmp c.class_of.ensures c.class_of-2.ensures) c.cmp-2.ensures c.cmp-3.ensures c.then.ensures c.then-2.ensures
