-- `split::fill_values` meets its contract: without values the table changes nothing.
use Rattle.split.proofs.Splitting.{filled_none}
use Rattle.split.proofs.fill_values.Goals as goal

pub returns-in-None : goal.returns-in-None
returns-in-None c = filled_none c.args.s c.args.b.now c.args.values.now c.in-None.ensures.cases c.keep_all.ensures c.requires.3
