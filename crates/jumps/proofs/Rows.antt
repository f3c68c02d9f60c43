-- The node rows of a sheet: what is read of each, and where its subtree ends.
-- Assumes nothing.
use mathlib.Core.Path.{◌≡◌, sym, ap, ◌∙◌}
use mathlib.Core.List.{List, ◌++◌}
use Prim.Native.Nat.{ℕ, ◌<◌}
use native.Mathlib.Omega.{arith}
use lib.ListN.{get_or, drop}
use Rattle.formula.specs.Tree.{count}
use Rattle.sheet.specs.Format.{Bytes, Row, row, children}
use Rattle.sheet.specs.Sheet.{tree_rows, forest_rows}
use Rattle.rows.specs.Formulas.{node_rows_in, Readable}
use Rattle.rows.specs.declared.Layout.{Layout}
use Rattle.rows.proofs.Formulas.{node_row, length-nodes}
use Rattle.subtrees.specs.Ends.{Indexed}
use Rattle.subtrees.specs.Subtrees.{top, kids, forest_in, subtree_in}
use Rattle.subtrees.proofs.Forest.{rest, sound_at, stepped_at}
use Rattle.subtrees.proofs.Table.{children-top}
use Rattle.subtrees.proofs.Matrix.{sound_nodes}
use Rattle.subtrees.proofs.Siblings.{row-top, end_subtree, root_end}
use Rattle.jumps.specs.Jumps.{entry}
use Rattle.jumps.proofs.Span.{end_of, end_tree}

module _ {s : Layout} (b : Bytes) (ok : Readable s b) (i : ℕ) (h : i < s.nodes) where
  top-row : top (subtree_in s b i) ≡ get_or (node_rows_in s b) i (row 0 0)
  top-row = sym (row-top b ok i h) ∙ node_row s b i

  pub kind_row : {k : ℕ} → k ≡ (top (subtree_in s b i)).kind → k ≡ (get_or (node_rows_in s b) i (row 0 0)).kind
  kind_row e = e ∙ ap (λ (r : Row). r.kind) top-row

  pub argument_row : {a : ℕ} → a ≡ (top (subtree_in s b i)).argument → a ≡ (get_or (node_rows_in s b) i (row 0 0)).argument
  argument_row e = e ∙ ap (λ (r : Row). r.argument) top-row

  pub children-row : {k : ℕ} → k ≡ count (kids (subtree_in s b i)) → k ≡ children (get_or (node_rows_in s b) i (row 0 0))
  children-row e = e ∙ sym (children-top (subtree_in s b i)) ∙ ap children top-row

  -- the rows from i on are those of the subtree there, then others
  rows_from : drop i (node_rows_in s b) ≡ tree_rows (subtree_in s b i) ++ forest_rows (rest (forest_in s b i))
  unfolding subtree_in forest_in forest_rows
  rows_from =
      sym (sound_at (node_rows_in s b) (sound_nodes b ok) i) ∙
      ap forest_rows (stepped_at (node_rows_in s b) (sound_nodes b ok) i (omega (arith, length-nodes b ok))).whole

  pub end_entry : (ends : List ℕ) → Indexed s b ends → entry ends i ≡ end_of (node_rows_in s b) i
  end_entry ends e =
      end_subtree b ok ends e i h ∙ sym (end_tree (node_rows_in s b) (subtree_in s b i) i (forest_rows (rest (forest_in s b i))) rows_from)

-- the root's subtree ends behind the last row
pub root-entry : {s : Layout} (b : Bytes) (ends : List ℕ) → Indexed s b ends → entry ends 0 ≡ s.nodes
root-entry b ends e = end_subtree b e.readable ends e 0 e.readable.some_nodes ∙ sym (root_end b e.readable)
