-- The formula whose rows are in bytes: quantifiers first, then the nodes of one tree ("The sheet").
-- Assumes nothing.
use Rattle.std.specs.Prelude.{◌≡◌, List, map, ◌≤◌, length, take, drop}
use Rattle.formula.specs.Tree.{Tree, Prefix, Formula, rows}
use Rattle.sheet.specs.Format.{Bytes, Row, variables, nodes}
use Rattle.sheet.specs.Sheet.{binding, trees, root, formula_rows}
use Rattle.rows.specs.Formats.{format_of}
use Rattle.rows.specs.Layouts.{rows_in, Room}
use Rattle.rows.specs.declared.Format.{Format}
use Rattle.rows.specs.declared.Layout.{Layout}

unfoldable pub prefix_in : Layout → Bytes → Prefix
prefix_in s b = map binding (take s.variables (rows_in s b))

unfoldable pub node_rows_in : Layout → Bytes → List Row
node_rows_in s b = drop s.variables (rows_in s b)

unfoldable pub matrix_in : Layout → Bytes → Tree
matrix_in s b = root (trees (node_rows_in s b))

unfoldable pub formula_in : Layout → Bytes → Formula
formula_in s b = record { prefix = prefix_in s b; matrix = matrix_in s b }

-- The bytes hold such rows, and they are those of the formula. The limits are the wider format's.
pub record Readable (s : Layout) (b : Bytes) : Type 0 where
  pub room : Room s (length b)
  pub few_variables : s.variables ≤ 1024
  pub some_nodes : 1 ≤ s.nodes
  pub few_nodes : s.nodes ≤ 8192
  pub is_formula : formula_rows (formula_in s b) ≡ rows_in s b

-- the layout of a sheet of a format, by the sizes in its first bytes
abbrev pub layout_of : Format → Bytes → Layout
layout_of f b = record { format = f; variables = variables (format_of f) b; nodes = nodes (format_of f) b }

-- the layout of a formula's sheet
abbrev pub layout_for : Format → Formula → Layout
layout_for f g = record { format = f; variables = length g.prefix; nodes = rows g.matrix }
