-- `raw::settle::write_prefix` meets its contract.
use Rattle.std.proofs.Common.{subst}
use Rattle.substitution.specs.Output.{Laid}
use Rattle.substitution.proofs.Splice.{laid_on}
use Rattle.raw.proofs.Source.{prefix_without}
use Rattle.raw.proofs.settle.write_prefix.Goals as goal

pub returns-clause-laid : goal.returns-clause-laid
returns-clause-laid c =
    subst (Laid c.args.t c.args.out.now _ 0 _) (prefix_without c.args.s c.args.b.now c.requires.0 c.args.i c.requires.2)
    (laid_on c.write_rows-at.ensures.laid c.write_rows.ensures.laid)
