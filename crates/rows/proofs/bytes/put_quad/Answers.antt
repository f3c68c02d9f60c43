-- `rows::bytes::put_quad` meets its contract: the four bytes are those of two pairs.
use Rattle.rows.proofs.Stores.{stored_quad}
use Rattle.rows.proofs.bytes.put_quad.Goals as goal

pub returns : goal.returns
returns c = stored_quad c.args.b.now c.args.at c.args.value c.requires c.put_pair.ensures c.put_pair-2.ensures
