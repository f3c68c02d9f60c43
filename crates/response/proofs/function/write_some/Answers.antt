-- `response::function::write_some` meets its contract: not every child is relevant.
use Rattle.std.proofs.Common.{◌∷◌, length, sym, ap, ◌∙◌, subst, arith}
use mathlib.Core.List.{map}
use Rattle.sheet.specs.Format.{row}
use Rattle.substitution.specs.Changes.{changed_row}
use Rattle.substitution.specs.Output.{Laid}
use Rattle.raw.specs.Expansions.{Climbs, runs_in}
use Rattle.raw.proofs.Plans.{rest_of}
use Rattle.response.proofs.Writing.{selection_copy, some}
use Rattle.response.proofs.function.write_some.Goals as goal

pub kind_at-requires : goal.kind_at-requires
kind_at-requires c = (c.requires.0.readable, (some c.requires.0 c.requires.1 c.requires.2).operator_in)

pub slice_bounds-write_below-count : goal.slice_bounds-write_below-count
slice_bounds-write_below-count c = omega (arith, (some c.requires.0 c.requires.1 c.requires.2).some_cuts)

pub slice_bounds-write_below-start : goal.slice_bounds-write_below-start
slice_bounds-write_below-start c = omega (arith, (some c.requires.0 c.requires.1 c.requires.2).some_cuts)

pub write_below-requires : goal.write_below-requires
write_below-requires c =
    let a = c.args in
    let w = some c.requires.0 c.requires.1 c.requires.2 in
    let rest = rest_of 1 a.cuts.now in (
      record {
        readable = c.requires.0.readable;
        ready = selection_copy c.requires.0;
        climbs = subst (λ l. Climbs 0 l a.s.nodes) (sym rest) w.climbs;
        room = omega (arith, w.room, ap (λ l. length (runs_in a.s a.b.now l)) rest);
      },
      w.fits_children,
    )

pub returns : goal.returns
returns c =
    let a = c.args in
    let w = some c.requires.0 c.requires.1 c.requires.2 in
    let parts =
    ap (λ l. row c.kind_at.result a.p.relevant.children ∷ map (changed_row a.table.now) (runs_in a.s a.b.now l))
    (rest_of 1 a.cuts.now) in
    subst (Laid a.p.layout a.out.now _ a.p.layout.variables _) (parts ∙ w.written c.kind_at.ensures) c.write_below.ensures
