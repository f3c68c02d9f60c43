-- The goals of `clauses::write::write_front`. Assumes nothing.
use Rattle.std.proofs.Common.{ap, ◌∙◌, subst, [], ◌∷◌, ◌++◌, arith}
use lib.ListN.{length-map}
use Rattle.sheet.specs.Format.{row}
use Rattle.substitution.specs.Output.{Laid}
use Rattle.substitution.proofs.Splice.{laid_on}
use Rattle.raw.proofs.Raws.{room_on}
use Rattle.clauses.proofs.Writing.{front_rows}
use Rattle.clauses.proofs.write.write_front.Goals as goal

pub write_bound-at-requires : goal.write_bound-at-requires
write_bound-at-requires c =
    (room_on c.requires.1.room c.write_rows-bound.auto.out, omega (arith, c.requires.2, c.write_rows-bound.ensures.value))

pub write_row-requires : goal.write_row-requires
write_row-requires c = (
  room_on c.requires.1.room (c.write_bound-at.auto.out ∙ c.write_rows-bound.auto.out),
  omega (arith, c.requires.2, c.write_rows-bound.ensures.value, c.write_bound-at.ensures.next_row, length-map c.args.fresh.now (row 1)),
  c.requires.3,
)

pub returns : goal.returns
returns c =
    let a = c.args in
    subst (Laid a.t a.out.now _ 0 _) (ap (λ l. l ++ (row 5 a.clauses ∷ [])) (front_rows a.b.now c.requires.0 a.fresh.now))
    (laid_on (laid_on c.write_rows-bound.ensures.laid c.write_bound-at.ensures) c.write_row.ensures)
