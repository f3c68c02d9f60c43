-- `rows::read::nodes_at` meets its contract: N stands behind V.
use Rattle.sheet.specs.Format.{nodes}
use Rattle.rows.proofs.read.nodes_at.Goals as goal

pub returns : goal.returns
unfolding nodes
returns c = rw c.width.ensures.0 at c.number_at.ensures
