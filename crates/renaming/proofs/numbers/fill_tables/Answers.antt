-- `renaming::numbers::fill_tables` meets its contract.
use Rattle.std.proofs.Common.{◌++◌, true, false, ap, ap₂, ◌∙◌, length, arith}
use Rattle.formula.specs.Solve.{those}
use Rattle.rows.specs.Formulas.{prefix_in}
use Rattle.sets.specs.Sets.{holds}
use Rattle.substitution.specs.Changes.{putting}
use Rattle.substitution.proofs.Tables.{length-putting}
use Rattle.renaming.specs.Numbers.{renumbered}
use Rattle.renaming.proofs.Renumbering.{free-unused, second_lent, second_back}
use Rattle.renaming.proofs.numbers.fill_tables.Goals as goal

pub rename_all-requires-clause-b_in_bounds : goal.rename_all-requires-clause-b_in_bounds
rename_all-requires-clause-b_in_bounds c =
    omega (arith, c.requires.b_in_bounds, ap length (free-unused c.fill_used.ensures c.args.highest 1))

pub returns : goal.returns
returns c =
    let a = c.args in
    let kept = putting a.x false in
    let both = c.fill_both.ensures in
    let size = length-putting a.x false in
    second_back kept (putting a.x true) both size _ ∙
    ap (λ l. kept ++ l)
    (c.rename_all.ensures ∙
    ap₂ (renumbered (those (holds a.set.now) (prefix_in a.s a.b.now))) (free-unused c.fill_used.ensures a.highest 1)
    (second_lent kept (putting a.x true) both size))
