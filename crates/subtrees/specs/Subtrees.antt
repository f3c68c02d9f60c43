-- The subtrees of a matrix by the node row at which they start.
-- Assumes nothing.
use Rattle.std.specs.Prelude.{ℕ, ◌≤◌, drop}
use Rattle.formula.specs.Tree.{Tree, lit, node, Forest, ∅, count}
use Rattle.sheet.specs.Format.{Bytes, Row, row}
use Rattle.sheet.specs.Sheet.{literal_kind, operator_kind, front, trees, root}
use Rattle.rows.specs.Formulas.{node_rows_in}
use Rattle.rows.specs.declared.Layout.{Layout}

-- a tree's first row, and its children
abbrev pub top : Tree → Row
top (lit s v) = row (literal_kind s) v
top (node o ts) = row (operator_kind o) (count ts)

abbrev pub kids : Tree → Forest
kids (lit s v) = ∅
kids (node o ts) = ts

-- the trees from row i on
unfoldable pub forest_in : Layout → Bytes → ℕ → Forest
forest_in s b i = trees (drop i (node_rows_in s b))

-- the subtree that starts at row i, and k subtrees side by side from row i on
unfoldable pub subtree_in : Layout → Bytes → ℕ → Tree
subtree_in s b i = root (forest_in s b i)

unfoldable pub siblings_in : Layout → Bytes → ℕ → ℕ → Forest
siblings_in s b i k = front k (forest_in s b i)

-- there are k of them
abbrev pub Beside : Layout → Bytes → ℕ → ℕ → Type 0
Beside s b i k = k ≤ count (forest_in s b i)
