-- `relevance::subtree::relevant_children` meets its contract.
use Rattle.std.proofs.Common.{◌≡◌, ◌+◌, ◌-◌, ap, ◌∙◌, arith}
use Rattle.formula.specs.Tree.{rows_all, count}
use Rattle.formula.specs.Expand.{relevant}
use Rattle.subtrees.specs.Subtrees.{siblings_in}
use Rattle.subtrees.proofs.Siblings.{Walked}
use Rattle.relevance.proofs.TurnSubtree.{SiteBegun, Sharing, site-children, site-begun, site-chosen, share_start, walked, end_later, leads, share_on, share_none}
use Rattle.relevance.proofs.subtree.relevant_children.Goals as goal
use Rattle.relevance.proofs.subtree.relevant_children.Goals.{In-loop}

begun : (c : In-loop) → let a = c.args in SiteBegun c.requires.chained.chosen a.s a.b.now a.ends.now a.next.now a.site c.children_at-end.result
begun c = site-chosen c.args.b.now c.requires c.children_at-end.ensures.0

sharing : (c : In-loop) → let a = c.args in
    Sharing c.requires.chained.chosen a.s a.b.now (siblings_in a.s a.b.now (a.site.operator + 1) c.children_at-end.result)
    c.loop.at (c.children_at-end.result - c.loop.counter) c.loop.row c.loop.share
sharing c = c.loop.invariant _ (begun c)

walk : (c : In-loop) → let a = c.args in Walked a.s a.b.now a.ends.now c.loop.at (c.children_at-end.result - c.loop.counter)
walk c = walked _ (begun c) (omega arith) (sharing c).walk

pub loop-init : goal.loop-init
loop-init c =
    let k = c.children_at-end.result in
    let all : k - 0 ≡ k = omega arith in
    λ L begun. rw all (share_start L begun)

pub offset_bounds-ends-at : goal.offset_bounds-ends-at
offset_bounds-ends-at c =
    omega (arith, (walk (goal.at.offset_bounds-ends-at c).In-loop).inside, c.requires.chained.indexed.readable.few_nodes)

pub bounds-ends-at : goal.bounds-ends-at
bounds-ends-at c = omega (arith, (walk (goal.at.bounds-ends-at c).In-loop).inside, c.requires.chained.indexed.holds)

pub with_child-share-requires : goal.with_child-share-requires
with_child-share-requires c =
    let here = (goal.at.with_child-share-requires c).In-loop in
    let p = sharing here in (
      omega (arith, end_later _ (begun here) (omega arith) p.walk),
      omega (arith, (walk here).next_within, c.requires.chained.indexed.readable.few_nodes),
      p.few_rows,
      p.few_children,
    )

pub first_behind-row-requires : goal.first_behind-row-requires
first_behind-row-requires c =
    let here = (goal.at.first_behind-row-requires c).In-loop in
    leads _ (begun here) (omega arith) (sharing here).walk

pub loop-preserved : goal.loop-preserved
loop-preserved c = λ L k. share_on L k (omega arith) (omega arith) (c.loop.invariant L k) c.with_child-share.ensures c.first_behind-row.ensures

pub returns : goal.returns
returns c =
    let read = c.children_at-end.ensures.0 in
    let are = (site-children c.args.b.now c.requires read).are in
    λ L last k.
    let all = share_none L (omega arith) (c.loop.invariant L (site-begun c.args.b.now c.requires read L last k)) in (
      all.0 ∙ ap (λ ts. rows_all (relevant L ts)) are,
      all.1 ∙ ap (λ ts. count (relevant L ts)) are,
    )
