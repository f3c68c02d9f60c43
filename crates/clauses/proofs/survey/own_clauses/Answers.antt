-- The goals of `clauses::survey::own_clauses`. Assumes nothing.
use Rattle.std.proofs.Common.{refl}
use Rattle.subtrees.specs.Subtrees.{subtree_in}
use Rattle.clauses.proofs.Counting.{clauses-or, clauses-conjunct, clauses-below}
use Rattle.clauses.proofs.survey.own_clauses.Goals as goal

pub returns-then-kind_at-eq-OR : goal.returns-then-kind_at-eq-OR
returns-then-kind_at-eq-OR c =
    let a = c.args in
    λ L. clauses-or L a.j a.conjunct (subtree_in a.s a.b.now a.j) c.kind_at.ensures c.if-kind_at-eq-OR.true

pub returns-then-conjunct : goal.returns-then-conjunct
returns-then-conjunct c =
    let a = c.args in
    λ L. clauses-conjunct L a.j (subtree_in a.s a.b.now a.j) c.kind_at.ensures c.if-kind_at-eq-OR.false c.children_at-children.ensures.0
    c.if-conjunct.true refl

pub returns : goal.returns
returns c =
    let a = c.args in
    λ L. clauses-below L a.j (subtree_in a.s a.b.now a.j) c.kind_at.ensures c.if-kind_at-eq-OR.false c.children_at-children.ensures.0 c.if-conjunct.false
