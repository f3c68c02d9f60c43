-- `outer::writing::write_outer` meets its contract.
use mathlib.Core.Path.{◌≡◌, ap, subst}
use native.Mathlib.Omega.{arith}
use lib.ListN.{length}
use Rattle.rows.specs.Formulas.{prefix_in}
use Rattle.substitution.specs.Output.{Laid}
use Rattle.substitution.proofs.Splice.{laid_on}
use Rattle.raw.proofs.Raws.{room_on, laid_to}
use Rattle.raw.proofs.Plans.{rest_of}
use Rattle.renaming.specs.Prefixes.{rows_from}
use Rattle.outer.proofs.Written.{written_by}
use Rattle.outer.proofs.writing.write_outer.Goals as goal

pub write_all_copied-requires : goal.write_all_copied-requires
write_all_copied-requires c =
    let copies = ap (λ t. length (rows_from t (prefix_in c.args.s c.args.b.now))) (rest_of 1025 c.args.tables.now) in (
      c.requires.copyable.readable,
      room_on c.requires.copyable.room c.write_prefix-front.auto.out,
      omega (arith, c.write_prefix-front.ensures.value, c.requires.variables_are, copies),
    )

pub returns : goal.returns
returns c =
    let copies = ap (λ t. length (rows_from t (prefix_in c.args.s c.args.b.now))) (rest_of 1025 c.args.tables.now) in
    let at : c.write_all_copied.result ≡ c.args.e.layout.variables
    = omega (arith, c.write_all_copied.ensures.next_row, c.write_prefix-front.ensures.value, c.requires.variables_are, copies) in
    subst (Laid c.args.e.layout c.args.out.now _ 0 _) (written_by c.args.s c.args.b.now c.args.tables.now c.args.e)
    (laid_on c.write_prefix-front.ensures.laid (laid_on (laid_to at c.write_all_copied.ensures) c.write_matrix.ensures))
