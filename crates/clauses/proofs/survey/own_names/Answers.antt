-- The goals of `clauses::survey::own_names`. Assumes nothing.
use Rattle.std.proofs.Common.{arith}
use Rattle.subtrees.specs.Subtrees.{subtree_in}
use Rattle.clauses.proofs.Counting.{name-and, name-literal, name-conjunct, name-or}
use Rattle.clauses.proofs.survey.own_names.Goals as goal

pub returns-then-kind-eq-AND : goal.returns-then-kind-eq-AND
returns-then-kind-eq-AND c =
    (name-and c.args.conjunct (subtree_in c.args.s c.args.b.now c.args.j) c.kind_at-kind.ensures c.if-kind-eq-AND.true, omega arith)

pub returns-then-kind-ne-OR : goal.returns-then-kind-ne-OR
returns-then-kind-ne-OR c = (
  name-literal c.args.conjunct (subtree_in c.args.s c.args.b.now c.args.j) c.kind_at-kind.ensures c.if-kind-eq-AND.false c.if-kind-ne-OR.true,
  omega arith,
)

pub returns-then-conjunct : goal.returns-then-conjunct
returns-then-conjunct c = (
  name-conjunct (subtree_in c.args.s c.args.b.now c.args.j) c.kind_at-kind.ensures c.if-kind-eq-AND.false c.if-conjunct.true,
  omega arith,
)

pub returns : goal.returns
returns c =
    (name-or (subtree_in c.args.s c.args.b.now c.args.j) c.kind_at-kind.ensures c.if-kind-ne-OR.false c.if-conjunct.false, omega arith)
