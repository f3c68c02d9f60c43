-- `raw::settle::write_settled` meets its contract.
use Rattle.std.proofs.Common.{arith, rules}
use Rattle.substitution.proofs.Splice.{laid_on}
use Rattle.raw.proofs.Raws.{raw-laid, settled-rows}
use Rattle.raw.proofs.settle.write_settled.Goals as goal

pub returns : goal.returns
returns c =
    raw-laid (omega (arith, c.write_prefix-at.ensures.value, c.write_copy.ensures.value, c.requires.1))
    (laid_on c.write_prefix-at.ensures.laid c.write_copy.ensures.laid) (search rules)
    (settled-rows c.args.s c.args.b.now c.requires.0 c.args.table.now c.args.i)
