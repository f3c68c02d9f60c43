-- `rows::read::argument_at` meets its contract: the number at the row's place is its argument.
use Rattle.std.proofs.Common.{sym, ap, ℕ, ◌∙◌, take, drop}
use Rattle.sheet.specs.Format.{Row, number}
use Rattle.rows.specs.Layouts.{width}
use Rattle.rows.proofs.Layouts.{row_in}
use Rattle.rows.proofs.read.argument_at.Goals as goal

pub returns : goal.returns
returns c =
    let a = c.args in (
      c.number_at.ensures.0 ∙ ap (λ (i : ℕ). number (take (width a.s) (drop i a.b.now))) c.argument_place.ensures ∙
          sym (ap (λ (r : Row). r.argument) (row_in a.b.now c.requires.0 a.r c.requires.1)),
      c.number_at.ensures.1,
    )
