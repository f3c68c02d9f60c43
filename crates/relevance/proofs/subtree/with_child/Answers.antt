-- `relevance::subtree::with_child` meets its contract.
use Rattle.relevance.proofs.TurnSubtree.{with_held, with_none}
use Rattle.relevance.proofs.subtree.with_child.Goals as goal

pub returns-then-row-end : goal.returns-then-row-end
returns-then-row-end c = let a = c.args in with_held a.share a.at a.end a.row c.if-row-end.true

pub returns : goal.returns
returns c = let a = c.args in with_none a.share a.at a.end a.row c.if-row-end.false
