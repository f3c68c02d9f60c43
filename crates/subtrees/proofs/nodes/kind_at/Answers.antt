-- `subtrees::nodes::kind_at` meets its contract: a node row is the first of its subtree.
use Rattle.subtrees.proofs.Siblings.{kind-top}
use Rattle.subtrees.proofs.nodes.kind_at.Goals as goal

pub returns : goal.returns
returns c = kind-top c.args.b.now c.requires.0 c.args.i c.requires.1 c.kind_at.ensures
