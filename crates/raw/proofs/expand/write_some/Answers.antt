-- `raw::expand::write_some` meets its contract.
use Rattle.std.proofs.Common.{◌≡◌, sym, ap, ◌∙◌, length, subst, arith}
use Rattle.substitution.specs.Output.{Laid}
use Rattle.substitution.proofs.Splice.{ready_on, laid_on}
use Rattle.raw.specs.Expansions.{Climbs, runs_in, new_at, joined_at}
use Rattle.raw.proofs.Raws.{laid_to}
use Rattle.raw.proofs.Plans.{ready_raw, rest_of, some, some_parts}
use Rattle.raw.proofs.expand.write_some.Goals as goal

pub kind_at-kind-requires : goal.kind_at-kind-requires
kind_at-kind-requires c = (c.requires.0.readable, (some c.requires.0 c.requires.1 c.requires.2 c.requires.3).operator_in)

pub children_at-children-requires : goal.children_at-children-requires
children_at-children-requires c = (c.requires.0.readable, (some c.requires.0 c.requires.1 c.requires.2 c.requires.3).operator_in)

pub bounds-cuts-0 : goal.bounds-cuts-0
bounds-cuts-0 c = omega (arith, (some c.requires.0 c.requires.1 c.requires.2 c.requires.3).two)

pub bounds-cuts-1 : goal.bounds-cuts-1
bounds-cuts-1 c = omega (arith, (some c.requires.0 c.requires.1 c.requires.2 c.requires.3).two)

pub overflow_add-start : goal.overflow_add-start
overflow_add-start c =
    let p = some c.requires.0 c.requires.1 c.requires.2 c.requires.3 in
    omega (arith, p.ordered, p.within, p.operator_in, c.requires.0.few_variables, c.requires.0.readable.few_nodes)

pub overflow_sub-children : goal.overflow_sub-children
overflow_sub-children c = omega (arith, (some c.requires.0 c.requires.1 c.requires.2 c.requires.3).few, c.children_at-children.ensures.0)

pub write_row-at-requires : goal.write_row-at-requires
write_row-at-requires c =
    let p = some c.requires.0 c.requires.1 c.requires.2 c.requires.3 in
    (c.requires.0.room, omega (arith, p.room), omega (arith, p.fits_children, c.children_at-children.ensures.0))

pub write_rows-requires : goal.write_rows-requires
write_rows-requires c =
    let p = some c.requires.0 c.requires.1 c.requires.2 c.requires.3 in (
      ready_on (ready_raw c.requires.0) c.write_row-at.auto.out,
      record { ordered = omega (arith, p.ordered); inside = omega (arith, p.within) },
      omega (arith, p.room, c.write_row-at.ensures.next_row),
    )

pub slice_bounds-write_runs-count-2 : goal.slice_bounds-write_runs-count-2
slice_bounds-write_runs-count-2 c = omega (arith, (some c.requires.0 c.requires.1 c.requires.2 c.requires.3).two)

pub slice_bounds-write_runs-start-2 : goal.slice_bounds-write_runs-start-2
slice_bounds-write_runs-start-2 c = omega (arith, (some c.requires.0 c.requires.1 c.requires.2 c.requires.3).two)

pub write_runs-requires : goal.write_runs-requires
write_runs-requires c =
    let a = c.args in
    let p = some c.requires.0 c.requires.1 c.requires.2 c.requires.3 in
    record {
      readable = c.requires.0.readable;
      ready = ready_on (ready_raw c.requires.0) (c.write_copies-end.auto.out ∙ c.write_rows.auto.out ∙ c.write_row-at.auto.out);
      climbs = subst (λ l. Climbs 0 l a.s.nodes) (sym (rest_of 2 a.cuts.now)) p.climbs_others;
      room =
          omega (
            arith,
            p.room,
            p.begins,
            p.ordered,
            c.write_copies-end.ensures.next_row,
            ap (λ l. length (runs_in a.s a.b.now l)) (rest_of 2 a.cuts.now),
          );
    }

pub returns : goal.returns
returns c =
    let a = c.args in
    let p = some c.requires.0 c.requires.1 c.requires.2 c.requires.3 in
    let at : c.write_rows.result ≡ joined_at a.e a.cuts.now =
    omega (arith, c.write_row-at.ensures.next_row, c.write_rows.ensures.value, p.begins, p.ordered) in
    subst (Laid a.e.layout a.out.now _ (new_at a.e) _)
    (some_parts a.s a.b.now a.tables.now a.cuts.now a.e p c.kind_at-kind.ensures c.children_at-children.ensures.0)
    (laid_on c.write_row-at.ensures (laid_on (laid_to at c.write_rows.ensures.laid) (laid_on c.write_copies-end.ensures c.write_runs.ensures)))
