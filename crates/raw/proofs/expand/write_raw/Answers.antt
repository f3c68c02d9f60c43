-- `raw::expand::write_raw` meets its contract.
use Rattle.std.proofs.Common.{◌≡◌, ap, ◌∙◌, arith}
use Rattle.rows.specs.declared.Layout.{Layout}
use Rattle.substitution.proofs.Splice.{laid_on}
use Rattle.raw.proofs.Raws.{room_on, laid_to, raw-laid}
use Rattle.raw.proofs.Plans.{copyable, matrix_rows, expanded-rows}
use Rattle.raw.proofs.expand.write_raw.Goals as goal

pub returns : goal.returns
returns c =
    let at : c.write_prefix.result ≡ c.args.e.layout.variables =
    omega (arith, c.write_prefix.ensures.value, ap (λ (t : Layout). t.variables) c.requires.0.layout_is) in
    raw-laid (omega (arith, c.write_matrix.ensures.next_row, matrix_rows (copyable c.requires.0)))
    (laid_on (laid_to at c.write_prefix.ensures.laid) c.write_matrix.ensures)
    (room_on c.requires.0.room (c.write_matrix.auto.out ∙ c.write_prefix.auto.out))
    (expanded-rows c.args.s c.args.b.now c.args.tables.now c.args.e)
