-- `relevance::subtree::narrower` meets its contract.
use Rattle.std.proofs.Common.{◌≡◌, suc, add-one}
use Rattle.subtrees.specs.Subtrees.{kids, subtree_in}
use Rattle.subtrees.proofs.Siblings.{children_read}
use Rattle.relevance.specs.Walks.{child_span}
use Rattle.relevance.proofs.TurnSubtree.{hops_beside, span_read}
use Rattle.relevance.proofs.Descent.{narrow_at, narrow_child, narrow_stay}
use Rattle.relevance.proofs.subtree.narrower.Goals as goal
use Rattle.relevance.proofs.subtree.narrower.Goals.{After-child_with-child}

child : (c : After-child_with-child) → let a = c.args in
    c.child_with-child.result ≡ child_span a.range.first (suc a.at) (kids (subtree_in a.s a.b.now a.at))
child c =
    let are = children_read c.args.b.now c.requires.0.readable c.args.at c.requires.1 (add-one c.args.at) c.children_at-count.ensures.0 in
    span_read c.args.b.now c.requires.0 c.args.range.first are (add-one c.args.at) c.child_with-child.ensures

pub returns-then-at-range : goal.returns-then-at-range
returns-then-at-range c = narrow_at c.args.range c.args.at _ c.if-at-range.true

pub child_with-child-requires : goal.child_with-child-requires
child_with-child-requires c =
    let are = children_read c.args.b.now c.requires.0.readable c.args.at c.requires.1 (add-one c.args.at) c.children_at-count.ensures.0 in
    hops_beside c.args.b.now c.requires.0 _ _ are.few

pub returns-then-range-child : goal.returns-then-range-child
returns-then-range-child c = narrow_child c.args.range c.args.at _ c.if-at-range.false (child (goal.at.returns-then-range-child c).After-child_with-child) c.if-range-child.true

pub returns : goal.returns
returns c = narrow_stay c.args.range c.args.at _ c.if-at-range.false (child (goal.at.returns c).After-child_with-child) c.if-range-child.false
