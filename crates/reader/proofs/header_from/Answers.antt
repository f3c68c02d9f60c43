-- The goal of `reader::header_from`. Assumes nothing.
use Rattle.reader.proofs.Heading.{headed_from}
use Rattle.reader.proofs.header_from.Goals as goal

pub returns : goal.returns
returns c = headed_from c.args.text.now c.args.at c.requires c.header_of-h.ensures
