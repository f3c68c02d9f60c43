-- What the raw sheet is written by.
-- Assumes nothing.
use Rattle.std.specs.Prelude.{◌≡◌, List, ◌++◌, map, ℕ, ◌+◌, ◌-◌, ◌<◌, length}
use Rattle.sheet.specs.Format.{Bytes, Row}
use Rattle.sheet.specs.Sheet.{binding_row}
use Rattle.rows.specs.Formulas.{prefix_in}
use Rattle.rows.specs.declared.Layout.{Layout}
use Rattle.raw.specs.Formulas.{without_row, second_table}
use Rattle.raw.specs.Expansions.{Copyable, Told, raw_matrix}
use Rattle.raw.specs.declared.expand.Expansion.{Expansion}
use Rattle.renaming.specs.Prefixes.{rows_from}

-- the rows of the copies, by the second table
abbrev pub copied_rows : Layout → Bytes → List ℕ → List Row
copied_rows s b tables = rows_from (second_table tables) (prefix_in s b)

-- the prefix row that goes, and a layout with a prefix row for each copy
pub record Writes (s : Layout) (b : Bytes) (tables cuts : List ℕ) (e : Expansion) (out : Bytes) : Type 0 where
  pub copyable : Copyable s b tables e out
  pub told : Told s b tables cuts e
  pub in_prefix : e.row < s.variables
  pub variables_are : e.layout.variables ≡ s.variables - 1 + length (copied_rows s b tables)

-- all rows
abbrev pub written_rows : Layout → Bytes → List ℕ → Expansion → List Row
written_rows s b tables e =
    map binding_row (without_row e.row (prefix_in s b)) ++ (copied_rows s b tables ++ raw_matrix s b tables e)
