-- `qdimacs::prefix::prefix_end` meets its contract.
use Rattle.std.proofs.Common.{arith}
use Rattle.qdimacs.proofs.Cutting.{prefixed_none, prefixed_ends, prefixed_more, prefixed_all}
use Rattle.qdimacs.proofs.prefix.prefix_end.Goals as goal

pub loop-at-init : goal.loop-at-init
loop-at-init c = prefixed_none _

pub returns-then-next-ge-CLAUSE : goal.returns-then-next-ge-CLAUSE
returns-then-next-ge-CLAUSE c = prefixed_ends c.loop-at.invariant c.next_token-t.ensures c.step-next.ensures c.if-next-ge-CLAUSE.true

pub loop-at-smaller : goal.loop-at-smaller
loop-at-smaller c = omega (arith, c.next_token-t.ensures.inside, c.next_token-t.ensures.onward (omega arith))

pub loop-at-preserved : goal.loop-at-preserved
loop-at-preserved c = prefixed_more c.loop-at.invariant c.next_token-t.ensures c.step-next.ensures c.if-next-ge-CLAUSE.false

pub returns : goal.returns
returns c = prefixed_all c.loop-at.invariant (omega arith)
