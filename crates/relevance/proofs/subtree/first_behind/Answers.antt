-- `relevance::subtree::first_behind` meets its contract.
use Rattle.relevance.proofs.TurnSubtree.{way_on, way_end}
use Rattle.relevance.proofs.subtree.first_behind.Goals as goal

pub loop-row-preserved : goal.loop-row-preserved
loop-row-preserved c = λ to w. (way_on (c.loop-row.invariant to w) c.loop-row-test.true).2

pub returns : goal.returns
returns c = rw (way_end (c.loop-row.invariant _ c.requires.way) c.loop-row-test.false) c.requires.way
