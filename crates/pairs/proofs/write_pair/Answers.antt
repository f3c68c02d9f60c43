-- `pairs::write_pair` meets its contract.
use Rattle.std.proofs.Common.{ap, subst, ◌∷◌}
use Rattle.sheet.specs.Format.{row}
use Rattle.substitution.specs.Output.{Laid}
use Rattle.substitution.proofs.Splice.{laid_on}
use Rattle.raw.proofs.Source.{matrix_part}
use Rattle.pairs.proofs.write_pair.Goals as goal

pub returns : goal.returns
returns c =
    let a = c.args in
    subst (Laid a.to.layout a.out.now _ a.to.at _) (ap (λ l. row 5 2 ∷ row 3 a.x ∷ l) (matrix_part a.s a.b.now c.requires.0))
    (laid_on c.write_head-at.ensures c.write_rows.ensures.laid)
