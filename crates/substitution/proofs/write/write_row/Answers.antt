-- `substitution::write::write_row` meets its contract.
use Rattle.sheet.specs.Format.{row}
use Rattle.substitution.proofs.Splice.{row_laid}
use Rattle.substitution.proofs.write.write_row.Goals as goal

pub returns : goal.returns
returns c =
    row_laid c.args.to.layout c.args.out.now c.requires.0 c.args.to.at (row c.args.kind c.args.argument) c.requires.1
    c.set_row.ensures.b_after c.set_row.ensures.kept
