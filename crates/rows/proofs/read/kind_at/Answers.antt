-- `rows::read::kind_at` meets its contract: the byte at the row's place is its kind.
use Rattle.std.proofs.Common.{sym, ap, ℕ, ◌∙◌, get_or}
use Rattle.sheet.specs.Format.{Row}
use Rattle.rows.proofs.Layouts.{row_in}
use Rattle.rows.proofs.read.kind_at.Goals as goal

pub returns : goal.returns
returns c =
    let a = c.args in
    ap (λ (i : ℕ). get_or a.b.now i 0) c.kind_place.ensures ∙ sym (ap (λ (r : Row). r.kind) (row_in a.b.now c.requires.0 a.r c.requires.1))
