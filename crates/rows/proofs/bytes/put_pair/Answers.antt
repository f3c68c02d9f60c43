-- `rows::bytes::put_pair` meets its contract: both bytes of the number are stored.
use Rattle.rows.proofs.Stores.{stored_pair}
use Rattle.rows.proofs.bytes.put_pair.Goals as goal

pub returns : goal.returns
returns c = stored_pair _ _ _ c.requires
