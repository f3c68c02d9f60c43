-- `raw::expand::write_copies` meets its contract.
use Rattle.std.proofs.Common.{sym, ap, ◌∙◌, ◌-◌, length, take, drop, subst, arith}
use Rattle.std.proofs.Math.ListN.{length-map}
use Rattle.std.proofs.Math.Seq.{length-take-le}
use Rattle.substitution.specs.Changes.{changed_row}
use Rattle.substitution.specs.Output.{Laid}
use Rattle.substitution.proofs.Splice.{ready_on, laid_on}
use Rattle.raw.specs.Formulas.{first_table}
use Rattle.raw.specs.Expansions.{Climbs, runs_in, joined_at}
use Rattle.raw.proofs.Plans.{ready_raw, rest_of, some, joined_parts}
use Rattle.raw.proofs.expand.write_copies.Goals as goal

pub kind_at-kind-requires : goal.kind_at-kind-requires
kind_at-kind-requires c = (c.requires.0.readable, (some c.requires.0 c.requires.1 c.requires.2 c.requires.3).operator_in)

pub bounds-cuts-1 : goal.bounds-cuts-1
bounds-cuts-1 c = omega (arith, (some c.requires.0 c.requires.1 c.requires.2 c.requires.3).two)

pub write_row-at-requires : goal.write_row-at-requires
write_row-at-requires c =
    let p = some c.requires.0 c.requires.1 c.requires.2 c.requires.3 in
    (c.requires.0.room, omega (arith, p.room, p.joined_length, p.begins, p.ordered), p.fits_two)

pub slice_bounds-write_below-end : goal.slice_bounds-write_below-end
slice_bounds-write_below-end c = sym (length-take-le 1025 c.args.tables.now (omega (arith, c.requires.0.two_tables)))

pub slice_bounds-write_below-count : goal.slice_bounds-write_below-count
slice_bounds-write_below-count c = omega (arith, (some c.requires.0 c.requires.1 c.requires.2 c.requires.3).two)

pub slice_bounds-write_below-start : goal.slice_bounds-write_below-start
slice_bounds-write_below-start c = omega (arith, (some c.requires.0 c.requires.1 c.requires.2 c.requires.3).two)

pub write_below-end-requires : goal.write_below-end-requires
write_below-end-requires c =
    let a = c.args in
    let p = some c.requires.0 c.requires.1 c.requires.2 c.requires.3 in (
      record {
        readable = c.requires.0.readable;
        ready = ready_on (ready_raw c.requires.0) c.write_row-at.auto.out;
        climbs = subst (λ l. Climbs 0 l a.s.nodes) (sym (rest_of 1 a.cuts.now)) p.climbs_relevant;
        room =
            omega (
              arith,
              p.room,
              p.joined_length,
              p.begins,
              p.ordered,
              c.write_row-at.ensures.next_row,
              ap (λ l. length (runs_in a.s a.b.now l)) (rest_of 1 a.cuts.now),
            );
      },
      p.fits_relevant,
    )

pub slice_bounds-write_below-count-3 : goal.slice_bounds-write_below-count-3
slice_bounds-write_below-count-3 c = omega (arith, (some c.requires.0 c.requires.1 c.requires.2 c.requires.3).two)

pub slice_bounds-write_below-start-3 : goal.slice_bounds-write_below-start-3
slice_bounds-write_below-start-3 c = omega (arith, (some c.requires.0 c.requires.1 c.requires.2 c.requires.3).two)

pub write_below-requires : goal.write_below-requires
write_below-requires c =
    let a = c.args in
    let p = some c.requires.0 c.requires.1 c.requires.2 c.requires.3 in (
      record {
        readable = c.requires.0.readable;
        ready = ready_on (ready_raw c.requires.0) (c.write_below-end.auto.out ∙ c.write_row-at.auto.out);
        climbs = subst (λ l. Climbs 0 l a.s.nodes) (sym (rest_of 1 a.cuts.now)) p.climbs_relevant;
        room =
            omega (
              arith,
              p.room,
              p.joined_length,
              p.begins,
              p.ordered,
              c.write_row-at.ensures.next_row,
              c.write_below-end.ensures.next_row,
              length-map (runs_in a.s a.b.now (take (length a.cuts.now - 1) (drop 1 a.cuts.now))) (changed_row (first_table a.tables.now)),
              ap (λ l. length (runs_in a.s a.b.now l)) (rest_of 1 a.cuts.now),
            );
      },
      p.fits_relevant,
    )

pub returns : goal.returns
returns c =
    let a = c.args in
    subst (Laid a.e.layout a.out.now _ (joined_at a.e a.cuts.now) _)
    (joined_parts a.s a.b.now a.tables.now a.cuts.now a.e c.kind_at-kind.ensures)
    (laid_on c.write_row-at.ensures (laid_on c.write_below-end.ensures c.write_below.ensures))
