-- `raw::expand::write_matrix` meets its contract.
use Rattle.std.proofs.Common.{◌≡◌, sym, ◌∙◌, false, subst, arith}
use Rattle.formula.specs.Tree.{has}
use Rattle.rows.specs.Formulas.{matrix_in}
use Rattle.substitution.specs.Output.{Laid}
use Rattle.raw.specs.Formulas.{chosen_by}
use Rattle.raw.proofs.Plans.{ready_raw, absent-nodes, absent-parts}
use Rattle.raw.proofs.expand.write_matrix.Goals as goal
use Rattle.raw.proofs.expand.write_matrix.Goals.{Else-e}

absent : (c : Else-e) → has (chosen_by c.args.tables.now) (matrix_in c.args.s c.args.b.now) ≡ false
absent c = sym c.requires.1.0 ∙ c.if-e.false

pub write_rows-requires : goal.write_rows-requires
write_rows-requires c = (
  ready_raw c.requires.0,
  record { ordered = omega arith; inside = omega arith },
  omega (arith, absent-nodes c.requires.0 (absent (goal.at.write_rows-requires c).Else-e)),
)

pub returns : goal.returns
returns c =
    subst (Laid c.args.e.layout c.args.out.now _ c.args.e.layout.variables _) (absent-parts c.requires.0 (absent (goal.at.returns c).Else-e))
    c.write_rows.ensures.laid
