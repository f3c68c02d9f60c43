-- `tree_order::compare::class_of` meets its contract.
use Rattle.std.proofs.Common.{sym, arith}
use Rattle.tree_order.proofs.Rows.{class-literal, class_operator}
use Rattle.tree_order.proofs.compare.class_of.Goals as goal

pub returns-then-kind-le-NEGATIVE : goal.returns-then-kind-le-NEGATIVE
returns-then-kind-le-NEGATIVE c = sym (class-literal _ (omega arith))

pub returns-else-kind-le-NEGATIVE : goal.returns-else-kind-le-NEGATIVE
returns-else-kind-le-NEGATIVE c = sym (class_operator _ (omega arith))
