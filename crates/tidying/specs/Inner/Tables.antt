-- Rows that are worked on with a table, and those of a formula that become the tidied formula's sheet.
-- Assumes nothing.
use Rattle.std.specs.Prelude.{◌≡◌, List, ℕ, ◌≤◌, length}
use Rattle.formula.specs.Tidy.{tidied}
use Rattle.sheet.specs.Format.{Bytes}
use Rattle.sheet.specs.Sheet.{sheet}
use Rattle.sheet.specs.Operations.{padded}
use Rattle.rows.specs.Layouts.{format_in, Fits, total, Room}
use Rattle.rows.specs.Formulas.{formula_in, layout_for}
use Rattle.rows.specs.declared.Layout.{Layout}

-- the rows have their place, an argument can hold their number, and the table has an entry for each
pub record InPlace (s : Layout) (b : Bytes) (K : List ℕ) : Type 0 where
  pub room : Room s (length b)
  pub counted : Fits s (total s)
  pub known_fit : total s ≤ length K

-- the sheet of the formula tidied, and its layout
pub record Leaves (s : Layout) (b b' : Bytes) (t : Layout) : Type 0 where
  pub sheet_is : b' ≡ padded (length b) (sheet (format_in s) (tidied (formula_in s b)))
  pub layout_is : t ≡ layout_for s.format (tidied (formula_in s b))
  pub smaller : (t.variables ≡ s.variables) × (t.nodes ≤ s.nodes)
