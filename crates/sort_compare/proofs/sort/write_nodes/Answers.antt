-- `sort_compare::sort::write_nodes` meets its contract.
use Rattle.std.proofs.Common.{ap, ◌∙◌, ◌+◌, arith, get_or}
use Rattle.sheet.specs.Format.{row}
use Rattle.rows.specs.Layouts.{rows_in}
use Rattle.sort_compare.proofs.Written.{wrote_none, room-kept, argument_fits, wrote_row, wrote_all}
use Rattle.sort_compare.proofs.sort.write_nodes.Goals as goal

pub loop-r-init : goal.loop-r-init
loop-r-init c = wrote_none c.args.at.now c.requires.0 c.requires.1 c.requires.2 c.args.out.now c.requires.3

pub set_row-requires : goal.set_row-requires
set_row-requires c =
    let a = c.args in (
      room-kept a.at.now c.requires.0 c.requires.1 c.requires.2 a.out.now c.requires.3 c.loop-r.invariant,
      omega (arith, c.loop-r-test.true, c.requires.2),
      argument_fits a.at.now c.requires.0 c.requires.1 c.requires.2 a.out.now c.requires.3 (λ i. (c.type_inv.source i).fits) {r = c.loop-r.r}
          (omega (arith, c.loop-r-test.true))
          (c.argument_at.ensures.0 ∙ ap (λ n. (get_or (rows_in a.s a.source.now) (a.s.variables + n) (row 0 0)).argument) c.from.ensures),
    )

pub loop-r-preserved : goal.loop-r-preserved
loop-r-preserved c =
    let a = c.args in
    wrote_row a.at.now c.requires.0 c.requires.1 c.requires.2 a.out.now c.requires.3 (omega (arith, c.loop-r-test.true)) c.loop-r.invariant
    (c.kind_at.ensures ∙ ap (λ n. (get_or (rows_in a.s a.source.now) (a.s.variables + n) (row 0 0)).kind) c.from.ensures)
    (c.argument_at.ensures.0 ∙ ap (λ n. (get_or (rows_in a.s a.source.now) (a.s.variables + n) (row 0 0)).argument) c.from.ensures)
    c.set_row.ensures.b_after c.set_row.auto.b

pub returns : goal.returns
returns c =
    wrote_all c.args.at.now c.requires.0 c.requires.1 c.requires.2 c.args.out.now c.requires.3 c.loop-r-test.false c.loop-r.invariant
