-- `relevance::subtree::ancestor` meets its contract: a step down keeps the part.
use Rattle.std.proofs.Common.{◌<◌}
use Rattle.formula.specs.Tree.{Literals}
use Rattle.occurrences.specs.Chains.{Bounds}
use Rattle.relevance.proofs.Descent.{Narrowing, narrow_start, narrow_next, narrow-done}
use Rattle.relevance.proofs.subtree.ancestor.Goals as goal
use Rattle.relevance.proofs.subtree.ancestor.Goals.{In-loop-at}

next_holds : (c : In-loop-at) → let a = c.args in
    (L : Literals) → Bounds L a.s a.b.now a.range.first a.range.last → Narrowing L a.s a.b.now a.range.first c.loop-at.next
next_holds c L k =
    narrow_next L c.args.b.now c.requires.indexed.readable c.args.range k (c.loop-at.invariant.0 L k) c.loop-at.invariant.1 c.loop-at-test.true

next_inside : (c : In-loop-at) → c.loop-at.next < c.args.s.nodes
next_inside c = (next_holds c c.requires.chosen c.requires.bounds).inside

pub loop-at-init : goal.loop-at-init
loop-at-init c = (λ L k. narrow_start L c.args.b.now c.requires.indexed.readable k, c.narrower-next.ensures)

pub narrower-next-requires-in-loop-at : goal.narrower-next-requires-in-loop-at
narrower-next-requires-in-loop-at c = (c.requires.indexed, next_inside (goal.at.narrower-next-requires-in-loop-at c).In-loop-at)

pub loop-at-preserved : goal.loop-at-preserved
loop-at-preserved c = (next_holds (goal.at.loop-at-preserved c).In-loop-at, c.narrower-next-in-loop-at.ensures)

pub returns : goal.returns
returns c =
    λ L k. narrow-done L c.args.b.now c.requires.indexed.readable c.args.range k (c.loop-at.invariant.0 L k) c.loop-at.invariant.1 c.loop-at-test.false
