-- `qdimacs::clauses::has_above` meets its contract.
use Rattle.std.proofs.Common.{arith}
use Rattle.qdimacs.proofs.Counting.{lower_none, lower_found, lower_word, lower_all}
use Rattle.qdimacs.proofs.clauses.has_above.Goals as goal

pub loop-at-init : goal.loop-at-init
loop-at-init c = lower_none _ _

pub returns-then-says_above : goal.returns-then-says_above
returns-then-says_above c = lower_found c.requires c.loop-at.invariant c.next_token-t.ensures c.says_above.ensures c.if-says_above.true

pub loop-at-smaller : goal.loop-at-smaller
loop-at-smaller c = omega (arith, c.next_token-t.ensures.inside, c.next_token-t.ensures.onward (omega arith))

pub loop-at-preserved : goal.loop-at-preserved
loop-at-preserved c = lower_word c.requires c.loop-at.invariant c.next_token-t.ensures c.says_above.ensures c.if-says_above.false

pub returns : goal.returns
returns c = lower_all c.loop-at.invariant (omega arith)
