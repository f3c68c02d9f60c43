-- The rows that are tidied in place.
-- Assumes nothing.
use Rattle.std.specs.Prelude.{◌≡◌, ◌+◌, ◌≤◌, length}
use Rattle.sheet.specs.Format.{Bytes}
use Rattle.sheet.specs.Sheet.{formula_rows}
use Rattle.rows.specs.Tables.{ROWS, HIGHEST}
use Rattle.rows.specs.Layouts.{total, rows_in, Room}
use Rattle.rows.specs.Formulas.{formula_in}
use Rattle.rows.specs.declared.Layout.{Layout}

-- the rows of a formula, for which there is room in tables; the sizes before them need not have been written
pub record Raw (s : Layout) (b : Bytes) : Type 0 where
  pub room : Room s (length b)
  pub few_rows : total s ≤ ROWS + HIGHEST
  pub is_formula : formula_rows (formula_in s b) ≡ rows_in s b
