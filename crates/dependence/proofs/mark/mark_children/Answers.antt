-- `dependence::mark::mark_children` meets its contract.
use Rattle.std.proofs.Common.{◌∙◌, ap, arith}
use Rattle.formula.specs.Tree.{Forest, of, has_any}
use Rattle.formula.specs.Expand.{relevant}
use Rattle.relevance.proofs.TurnSubtree.{site-children, site-begun, site-chosen, walked, end_later, leads}
use Rattle.dependence.proofs.Marks.{marking_start, marking_on, marking_done, marked_as}
use Rattle.dependence.proofs.mark.mark_children.Goals as goal

pub loop-init : goal.loop-init
loop-init c = λ L k. marking_start L k _ (omega arith)

pub offset_bounds-ends-at : goal.offset_bounds-ends-at
offset_bounds-ends-at c =
    let begun = site-chosen c.args.b.now c.requires.0 c.children_at-end.ensures.0 in
    omega (arith, (walked _ begun (omega arith) (c.loop.invariant _ begun).walk).inside, c.requires.0.chained.indexed.readable.few_nodes)

pub bounds-ends-at : goal.bounds-ends-at
bounds-ends-at c =
    let begun = site-chosen c.args.b.now c.requires.0 c.children_at-end.ensures.0 in
    omega (arith, (walked _ begun (omega arith) (c.loop.invariant _ begun).walk).inside, c.requires.0.chained.indexed.holds)

pub mark_child-requires : goal.mark_child-requires
mark_child-requires c =
    let begun = site-chosen c.args.b.now c.requires.0 c.children_at-end.ensures.0 in
    let marking = c.loop.invariant _ begun in (
      c.requires.0.chained.indexed.readable,
      omega (arith, end_later _ begun (omega arith) marking.walk),
      omega (arith, (walked _ begun (omega arith) marking.walk).next_within),
      marking.same_length ∙ c.requires.1,
    )

pub first_behind-row-requires : goal.first_behind-row-requires
first_behind-row-requires c =
    let begun = site-chosen c.args.b.now c.requires.0 c.children_at-end.ensures.0 in
    rw c.from-end.ensures (leads _ begun (omega arith) (c.loop.invariant _ begun).walk)

pub loop-preserved : goal.loop-preserved
loop-preserved c =
    λ L k. marking_on L k (omega arith) (omega arith) c.from-end.ensures (c.loop.invariant L k) c.mark_child.ensures c.first_behind-row.ensures

pub returns : goal.returns
returns c =
    let read = c.children_at-end.ensures.0 in
    λ L last k.
    let over = site-begun c.args.b.now c.requires.0 read L last k in
    marked_as (marking_done L over (omega arith) (c.loop.invariant L over))
    (λ v h. ap (λ (ts : Forest). has_any (of v) (relevant L ts)) (site-children c.args.b.now c.requires.0 read).are)
