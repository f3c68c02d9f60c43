-- `raw::expand::write_whole` meets its contract.
use Rattle.std.proofs.Common.{sym, ap, ◌∙◌, ◌∷◌, ◌++◌, ◌+◌, subst, arith}
use Rattle.std.proofs.Math.Seq.{length-take-le}
use Rattle.sheet.specs.Format.{row}
use Rattle.rows.specs.Layouts.{rows_in}
use Rattle.substitution.specs.Changes.{copied}
use Rattle.substitution.specs.Output.{Laid}
use Rattle.substitution.proofs.Splice.{ready_on, laid_on}
use Rattle.raw.specs.Formulas.{first_table}
use Rattle.raw.specs.Expansions.{new_at}
use Rattle.raw.proofs.Plans.{ready_raw, rest_of, whole}
use Rattle.raw.proofs.expand.write_whole.Goals as goal

pub overflow_add-subtree : goal.overflow_add-subtree
overflow_add-subtree c =
    let w = whole c.requires.0 c.requires.1 c.requires.2 in
    omega (arith, w.inside, w.end_in, c.requires.0.readable.few_variables, c.requires.0.readable.few_nodes)

pub overflow_add-subtree-2 : goal.overflow_add-subtree-2
overflow_add-subtree-2 c =
    let w = whole c.requires.0 c.requires.1 c.requires.2 in
    omega (arith, w.end_in, c.requires.0.readable.few_variables, c.requires.0.readable.few_nodes)

pub overflow_add-start : goal.overflow_add-start
overflow_add-start c =
    let w = whole c.requires.0 c.requires.1 c.requires.2 in
    omega (arith, w.inside, w.end_in, c.requires.0.few_variables, c.requires.0.readable.few_nodes)

pub write_row-at-requires : goal.write_row-at-requires
write_row-at-requires c =
    let w = whole c.requires.0 c.requires.1 c.requires.2 in
    (c.requires.0.room, omega (arith, w.room), w.fits_two)

pub slice_bounds-write_copy-end : goal.slice_bounds-write_copy-end
slice_bounds-write_copy-end c = sym (length-take-le 1025 c.args.tables.now (omega (arith, c.requires.0.two_tables)))

pub write_copy-end-requires : goal.write_copy-end-requires
write_copy-end-requires c =
    let w = whole c.requires.0 c.requires.1 c.requires.2 in (
      ready_on (ready_raw c.requires.0) c.write_row-at.auto.out,
      record { ordered = omega (arith, w.inside); inside = omega (arith, w.end_in) },
      omega (arith, w.room, c.write_row-at.ensures.next_row),
    )

pub write_copy-requires : goal.write_copy-requires
write_copy-requires c =
    let w = whole c.requires.0 c.requires.1 c.requires.2 in (
      ready_on (ready_raw c.requires.0) (c.write_copy-end.auto.out ∙ c.write_row-at.auto.out),
      record { ordered = omega (arith, w.inside); inside = omega (arith, w.end_in) },
      omega (arith, w.room, c.write_row-at.ensures.next_row, c.write_copy-end.ensures.value),
    )

pub returns : goal.returns
returns c =
    let a = c.args in
    let from = a.s.variables + a.e.relevant.operator in
    let to = a.s.variables + a.e.end in
    let R = rows_in a.s a.b.now in
    subst (Laid a.e.layout a.out.now _ (new_at a.e) _)
    (ap (λ t. row a.e.joint 2 ∷ (copied (first_table a.tables.now) from to R ++ copied t from to R)) (rest_of 1025 a.tables.now) ∙
    (whole c.requires.0 c.requires.1 c.requires.2).written)
    (laid_on c.write_row-at.ensures (laid_on c.write_copy-end.ensures.laid c.write_copy.ensures.laid))
