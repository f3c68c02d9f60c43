-- `solve::verdicts::decide` meets its contract: the root's row tells.
use Rattle.std.proofs.Common.{arith}
use Rattle.rows.specs.Formulas.{matrix_in}
use Rattle.subtrees.specs.Subtrees.{forest_in, subtree_in}
use Rattle.solve.proofs.Deciding.{open_literal, open_operator, decided_true, decided_false}
use Rattle.solve.proofs.verdicts.decide.Goals as goal

pub returns-then-kind-le-NEGATIVE : goal.returns-then-kind-le-NEGATIVE
unfolding matrix_in subtree_in forest_in
returns-then-kind-le-NEGATIVE c = open_literal (subtree_in c.args.s c.args.b.now 0) (omega (arith, c.kind_at-kind.ensures))

pub returns-then-argument_at-ne0 : goal.returns-then-argument_at-ne0
unfolding matrix_in subtree_in forest_in
returns-then-argument_at-ne0 c =
    open_operator (subtree_in c.args.s c.args.b.now 0) (omega (arith, c.kind_at-kind.ensures)) (λ e. omega (arith, c.argument_at.ensures.0))

pub returns-then-kind-eq-AND : goal.returns-then-kind-eq-AND
unfolding matrix_in subtree_in forest_in
returns-then-kind-eq-AND c =
    decided_true (subtree_in c.args.s c.args.b.now 0) (omega (arith, c.kind_at-kind.ensures)) (omega (arith, c.argument_at.ensures.0))

pub returns : goal.returns
unfolding matrix_in subtree_in forest_in
returns c =
    decided_false (subtree_in c.args.s c.args.b.now 0) (omega (arith, c.kind_at-kind.ensures)) (λ e. omega (arith, c.kind_at-kind.ensures))
    (omega (arith, c.argument_at.ensures.0))
