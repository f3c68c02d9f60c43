-- `prefixes::bound_at` meets its contract: a prefix row's argument is its variable.
use Rattle.prefixes.proofs.Places.{variable-row}
use Rattle.prefixes.proofs.bound_at.Goals as goal

pub returns : goal.returns
returns c = (variable-row c.args.b.now c.requires.0 c.args.i c.requires.1 c.argument_at.ensures.0, c.argument_at.ensures.1)
