-- `qdimacs::marks::name` meets its contract.
use Rattle.std.proofs.Common.{arith}
use Rattle.qdimacs.proofs.Naming.{named_none, named_more, named_all}
use Rattle.qdimacs.proofs.marks.name.Goals as goal

pub loop-at-init : goal.loop-at-init
loop-at-init c = named_none _ _ _ c.requires.0 c.requires.1

pub loop-at-smaller : goal.loop-at-smaller
loop-at-smaller c = omega (arith, c.next_token-t.ensures.inside, c.next_token-t.ensures.onward (omega arith))

pub loop-at-preserved : goal.loop-at-preserved
loop-at-preserved c = named_more c.loop-at.invariant c.next_token-t.ensures c.name_word.ensures

pub returns : goal.returns
returns c = named_all c.loop-at.invariant (omega arith)
