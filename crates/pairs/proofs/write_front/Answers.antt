-- `pairs::write_front` meets its contract.
use Rattle.std.proofs.Common.{sym, ap, subst, [], ◌∷◌, ◌++◌}
use Rattle.sheet.specs.Format.{row}
use Rattle.rows.proofs.Formulas.{quantifiers}
use Rattle.substitution.specs.Output.{Laid}
use Rattle.substitution.proofs.Splice.{laid_on}
use Rattle.pairs.proofs.write_front.Goals as goal

pub returns : goal.returns
returns c =
    let a = c.args in
    subst (Laid a.t a.out.now _ 0 _) (ap (λ l. l ++ (row 6 a.pairs ∷ [])) (sym (quantifiers a.b.now c.requires.0)))
    (laid_on c.write_rows-at.ensures.laid c.write_row.ensures)
