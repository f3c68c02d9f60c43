-- `subtrees::nodes::argument_at` meets its contract: a node row is the first of its subtree.
use Rattle.subtrees.proofs.Siblings.{argument_top}
use Rattle.subtrees.proofs.nodes.argument_at.Goals as goal

pub returns : goal.returns
returns c = (argument_top c.args.b.now c.requires.0 c.args.i c.requires.1 c.argument_at.ensures.0, c.argument_at.ensures.1)
