-- `rows::write::set_row` meets its contract: the kind's byte is stored, then the argument's.
use Rattle.std.proofs.Common.{ap, ap₂, ◌∙◌, ◌*◌, ◌+◌, ◌++◌, ℕ, take, drop, set}
use Rattle.sheet.specs.Format.{Bytes, digits}
use Rattle.rows.proofs.Flat.{rows_in as Flat-rows}
use Rattle.rows.specs.Layouts.{width, size, rows_in}
use Rattle.rows.proofs.Layouts.{room_of}
use Rattle.rows.proofs.Stores.{rows-put, header-kept, back_kept}
use Rattle.rows.proofs.write.set_row.Goals as goal

pub returns : goal.returns
unfolding rows_in Flat-rows
returns c =
    let a = c.args in
    let b = a.b.now in
    let stored : ℕ → ℕ → Bytes
    = λ k p. take p (set b k a.kind) ++ digits (width a.s) a.argument ++ drop (p + width a.s) (set b k a.kind) in
    let e = c.put_number.ensures ∙ ap₂ stored c.kind_place.ensures c.argument_place.ensures in
    let room = room_of c.requires.0 in
    record {
      b_after = ap (rows_in a.s) e ∙ rows-put b room c.requires.1 a.kind a.argument c.requires.2;
      kept = record {
        sizes_kept = ap (take (2 * width a.s)) e ∙ header-kept b room c.requires.1 a.kind a.argument c.requires.2;
        behind_kept = ap (drop (size a.s)) e ∙ back_kept b room c.requires.1 a.kind a.argument c.requires.2;
      };
    }
