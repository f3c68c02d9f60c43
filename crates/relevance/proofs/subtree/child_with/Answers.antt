-- `relevance::subtree::child_with` meets its contract.
use Rattle.std.proofs.Common.{◌≡◌, ◌-◌, refl, arith}
use Rattle.relevance.proofs.TurnSubtree.{span_inside, span-found, span_on, span_none}
use Rattle.relevance.proofs.subtree.child_with.Goals as goal

pub loop-init : goal.loop-init
loop-init c =
    let all : c.args.count - 0 ≡ c.args.count = omega arith in
    rw all (record { hops_on = c.requires; same = refl })

pub bounds-ends-at : goal.bounds-ends-at
bounds-ends-at c = span_inside (omega arith) c.loop.invariant

pub returns-then-row-end : goal.returns-then-row-end
returns-then-row-end c = span-found (omega arith) c.loop.invariant c.if-row-end.true

pub loop-preserved : goal.loop-preserved
loop-preserved c = span_on (omega arith) c.loop.invariant (omega arith) c.if-row-end.false

pub returns : goal.returns
returns c = span_none (omega arith) c.loop.invariant
