-- The matrix of a readable sheet: its rows, and its table of ends.
-- Assumes nothing.
use mathlib.Core.Path.{◌≡◌, sym, ap, ◌∙◌}
use mathlib.Core.List.{List, append-nil}
use Prim.Native.Nat.{ℕ, ◌+◌, ◌≤◌, ◌<◌}
use native.Mathlib.Omega.{arith}
use lib.ListN.{length, get_or, take}
use Rattle.formula.specs.Tree.{∅, ◌▸◌, rows}
use Rattle.sheet.specs.Format.{Bytes}
use Rattle.sheet.specs.Sheet.{trees, root, tree_rows, forest_rows}
use Rattle.rows.specs.Formulas.{node_rows_in, matrix_in, Readable}
use Rattle.rows.specs.declared.Layout.{Layout}
use Rattle.rows.proofs.Formulas.{one_tree, length-nodes}
use Rattle.subtrees.specs.Ends.{subtree_ends, forest_ends, Indexed}
use Rattle.subtrees.proofs.Forest.{Sound, trees-rows, forest_at}
use Rattle.subtrees.proofs.Table.{Filled, end_at}

module _ {s : Layout} (b : Bytes) (ok : Readable s b) where
  nodes_forest : node_rows_in s b ≡ forest_rows (matrix_in s b ▸ ∅)
  unfolding forest_rows
  nodes_forest = sym (one_tree b ok) ∙ sym (append-nil (tree_rows (matrix_in s b)))

  -- the one tree
  pub trees-nodes : trees (node_rows_in s b) ≡ matrix_in s b ▸ ∅
  trees-nodes = ap trees nodes_forest ∙ trees-rows (matrix_in s b ▸ ∅)

  pub sound_nodes : Sound (node_rows_in s b)
  sound_nodes = ap forest_rows trees-nodes ∙ sym nodes_forest

  -- the table
  ends-nodes : forest_ends 0 (trees (node_rows_in s b)) ≡ subtree_ends 0 (matrix_in s b)
  unfolding forest_ends
  ends-nodes = ap (forest_ends 0) trees-nodes ∙ append-nil (subtree_ends 0 (matrix_in s b))

  pub filled-ends : (ends : List ℕ) → length (node_rows_in s b) ≤ length ends → Filled (node_rows_in s b) ends 0
      → Indexed s b ends
  filled-ends ends room f =
      record {
        readable = ok;
        holds = omega (arith, length-nodes b ok);
        filled = ap (λ m. take m ends) (sym (length-nodes b ok)) ∙ f ∙ ends-nodes;
      }

  pub ends-filled : (ends : List ℕ) → Indexed s b ends → Filled (node_rows_in s b) ends 0
  ends-filled ends e = ap (λ m. take m ends) (length-nodes b ok) ∙ e.filled ∙ sym ends-nodes

  -- an entry is the end of the subtree at its row
  pub end_of : (ends : List ℕ) → Indexed s b ends → (i : ℕ) → i < s.nodes
      → get_or ends i 0 ≡ i + rows (root (forest_at (node_rows_in s b) i))
  end_of ends e i h =
      end_at (node_rows_in s b) sound_nodes ends 0 (ends-filled ends e) (omega (arith, length-nodes b ok, e.holds)) (omega arith)
      (omega (arith, length-nodes b ok))
