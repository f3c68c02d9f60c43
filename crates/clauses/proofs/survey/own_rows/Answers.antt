-- The goals of `clauses::survey::own_rows`. Assumes nothing.
use Rattle.std.proofs.Common.{refl}
use Rattle.subtrees.specs.Subtrees.{subtree_in}
use Rattle.clauses.proofs.Counting.{rows-conjunct-or, rows-below-or, rows-conjunct, rows-below}
use Rattle.clauses.proofs.survey.own_rows.Goals as goal

pub returns-then-conjunct : goal.returns-then-conjunct
returns-then-conjunct c =
    let a = c.args in
    λ L. rows-conjunct-or L a.j (subtree_in a.s a.b.now a.j) c.kind_at.ensures c.if-kind_at-eq-OR.true c.children_at-children.ensures.0 c.if-conjunct.true refl

pub returns-then-kind_at-eq-OR : goal.returns-then-kind_at-eq-OR
returns-then-kind_at-eq-OR c =
    let a = c.args in
    λ L. rows-below-or L a.j (subtree_in a.s a.b.now a.j) c.kind_at.ensures c.if-kind_at-eq-OR.true c.children_at-children.ensures.0 c.if-conjunct.false refl

pub returns-then-conjunct-2 : goal.returns-then-conjunct-2
returns-then-conjunct-2 c =
    let a = c.args in
    λ L. rows-conjunct L a.j (subtree_in a.s a.b.now a.j) c.kind_at.ensures c.if-kind_at-eq-OR.false c.children_at-children.ensures.0 c.if-conjunct-2.true refl

pub returns : goal.returns
returns c =
    let a = c.args in
    λ L. rows-below L a.j (subtree_in a.s a.b.now a.j) c.kind_at.ensures c.if-kind_at-eq-OR.false c.children_at-children.ensures.0 c.if-conjunct-2.false refl
