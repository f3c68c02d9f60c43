-- The rows of a layout: how many there are, and what stands in each.
-- Assumes nothing.
use mathlib.Core.Path.{◌≡◌}
use mathlib.Core.List.{◌++◌}
use Prim.Native.Nat.{ℕ, ◌+◌, ◌*◌, ◌≤◌, ◌<◌}
use lib.ListN.{length, get_or, take, drop}
use Rattle.sheet.specs.Format.{Bytes, row, number, all_rows}
use Rattle.rows.proofs.Flat as rows
use Rattle.rows.specs.Formats.{format_of}
use Rattle.rows.specs.Layouts.{width, total, rows_in, Room}
use Rattle.rows.specs.Formulas.{layout_of}
use Rattle.rows.specs.declared.Format.{Format}
use Rattle.rows.specs.declared.Layout.{Layout}
use Rattle.rows.proofs.Rows as flat

-- the rows of a format's sheet
pub all_rows_in : (f : Format) (b : Bytes) → all_rows (format_of f) b ≡ rows_in (layout_of f b) b
unfolding rows_in rows.rows_in
all_rows_in f b = flat.all_rows_in (format_of f) b

-- the room of as many rows
pub room_of : {s : Layout} {len : ℕ} → Room s len → rows.Room (width s) (total s) len
room_of r = record { holds = r.holds }

module _ {s : Layout} (b : Bytes) (room : Room s (length b)) where
  pub length-rows_in : length (rows_in s b) ≡ total s
  unfolding rows_in rows.rows_in
  length-rows_in = flat.length-rows_in b (room_of room)

  pub row_in : (r : ℕ) → r < total s
      → get_or (rows_in s b) r (row 0 0) ≡
      row (get_or b (2 * width s + r) 0) (number (take (width s) (drop (2 * width s + total s + width s * r) b)))
  unfolding rows_in rows.rows_in
  row_in r h = flat.row_in b (room_of room) r h

  -- its argument's bytes are within
  pub argument_within : (r : ℕ) → r < total s → 2 * width s + total s + width s * r + width s ≤ length b
  argument_within r h = flat.argument_within b (room_of room) r h

  -- bytes behind them change no row
  pub rows_in-++ : (more : Bytes) → rows_in s (b ++ more) ≡ rows_in s b
  unfolding rows_in rows.rows_in
  rows_in-++ more = flat.rows_in-++ b (room_of room) more
