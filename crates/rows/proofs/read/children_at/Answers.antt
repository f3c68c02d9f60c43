-- `rows::read::children_at` meets its contract: a literal has no child, an operator as many as its argument says.
use Rattle.std.proofs.Common.{sym, ◌∙◌, arith}
use Rattle.rows.proofs.Rows.{children-literal, children_operator}
use Rattle.rows.proofs.read.children_at.Goals as goal

pub returns-then-kind_at-le-NEGATIVE : goal.returns-then-kind_at-le-NEGATIVE
returns-then-kind_at-le-NEGATIVE c = (sym (children-literal _ (omega arith)), omega arith)

pub returns-else-kind_at-le-NEGATIVE : goal.returns-else-kind_at-le-NEGATIVE
returns-else-kind_at-le-NEGATIVE c = (c.argument_at.ensures.0 ∙ sym (children_operator _ (omega arith)), c.argument_at.ensures.1)
