-- `raw::expand::write_expanded` meets its contract.
use Rattle.std.proofs.Common.{◌≡◌, sym, ◌∙◌, subst, arith}
use Rattle.substitution.specs.Output.{Laid}
use Rattle.substitution.proofs.Splice.{ready_on, laid_on}
use Rattle.raw.specs.Expansions.{new_at}
use Rattle.raw.proofs.Raws.{laid_to}
use Rattle.raw.proofs.Sited.{sited}
use Rattle.raw.proofs.Plans.{ready_raw}
use Rattle.raw.proofs.expand.write_expanded.Goals as goal

pub overflow_add-above : goal.overflow_add-above
overflow_add-above c =
    let site = sited c.args.s c.args.b.now c.args.tables.now c.args.e c.requires.0 c.requires.1.0 in
    omega (arith, site.inside, site.end_in, c.requires.0.readable.few_variables, c.requires.0.readable.few_nodes)

pub overflow_add-behind : goal.overflow_add-behind
overflow_add-behind c =
    let site = sited c.args.s c.args.b.now c.args.tables.now c.args.e c.requires.0 c.requires.1.0 in
    omega (arith, site.end_in, c.requires.0.readable.few_variables, c.requires.0.readable.few_nodes)

pub write_rows-requires : goal.write_rows-requires
write_rows-requires c =
    let site = sited c.args.s c.args.b.now c.args.tables.now c.args.e c.requires.0 c.requires.1.0 in (
      ready_raw c.requires.0,
      record { ordered = omega arith; inside = omega (arith, site.inside, site.end_in) },
      omega (arith, site.measured),
    )

pub write_rows-requires-2 : goal.write_rows-requires-2
write_rows-requires-2 c =
    let site = sited c.args.s c.args.b.now c.args.tables.now c.args.e c.requires.0 c.requires.1.0 in (
      ready_on (ready_raw c.requires.0) (c.write_subtree-end.auto.out ∙ c.write_rows.auto.out),
      record { ordered = omega (arith, site.end_in); inside = omega arith },
      omega (arith, c.write_subtree-end.ensures.next_row, site.measured, site.end_in),
    )

pub returns : goal.returns
returns c =
    let site = sited c.args.s c.args.b.now c.args.tables.now c.args.e c.requires.0 c.requires.1.0 in
    let at : c.write_rows.result ≡ new_at c.args.e = omega (arith, c.write_rows.ensures.value) in
    subst (Laid c.args.e.layout c.args.out.now _ c.args.e.layout.variables _) (sym site.raw)
    (laid_on (laid_to at c.write_rows.ensures.laid) (laid_on c.write_subtree-end.ensures c.write_rows-2.ensures.laid))
