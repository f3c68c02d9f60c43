-- `qdimacs::clauses::count_clauses` meets its contract.
use Rattle.std.proofs.Common.{arith}
use Rattle.qdimacs.proofs.Counting.{counted_none, counted_word, counted_all}
use Rattle.qdimacs.proofs.clauses.count_clauses.Goals as goal

pub loop-at-init : goal.loop-at-init
loop-at-init c = counted_none _ _ c.requires

pub count_word-c-requires : goal.count_word-c-requires
count_word-c-requires c = let h = c.loop-at.invariant in (omega (arith, h.fewer, h.tally.few), omega (arith, h.fewer))

pub loop-at-smaller : goal.loop-at-smaller
loop-at-smaller c = omega (arith, c.next_token-t.ensures.inside, c.next_token-t.ensures.onward (omega arith))

pub loop-at-preserved : goal.loop-at-preserved
loop-at-preserved c = counted_word c.loop-at.invariant (omega arith) c.next_token-t.ensures c.count_word-c.ensures

pub returns : goal.returns
returns c = counted_all c.loop-at.invariant (omega arith)
