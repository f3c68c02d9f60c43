-- Equality of trees is equality of their rows (N4).
-- Assumes nothing.
use mathlib.Core.Path.{◌≡◌, sym, ◌∙◌, ap}
use mathlib.Core.Bool.{true}
use mathlib.Core.Logic.{◌↔◌}
use Rattle.formula.specs.Tree.{Op, Tree, node, Forest}
use Rattle.formula.specs.Tidy.{same_tree, duplicate}
use Rattle.formula.proofs.Tidy.Same.{same_tree_exactly}
use Rattle.sheet.specs.Sheet.{root, trees, tree_rows}
use Rattle.sheet.proofs.Preorder.{root-trees}

pub tree_rows_injective : (t u : Tree) → tree_rows t ≡ tree_rows u → t ≡ u
tree_rows_injective t u e = sym (root-trees t) ∙ ap (λ rs. root (trees rs)) e ∙ root-trees u

pub same_rows : (t u : Tree) → (same_tree t u ≡ true) ↔ (tree_rows t ≡ tree_rows u)
same_rows t u = (λ e. ap tree_rows ((same_tree_exactly t u).0 e), λ e. (same_tree_exactly t u).1 (tree_rows_injective t u e))

-- an operator and a sibling
pub duplicate-rows : (o : Op) (ts : Forest) (u : Tree) → (duplicate (node o ts) u ≡ true) ↔ (tree_rows (node o ts) ≡ tree_rows u)
unfolding duplicate
duplicate-rows o ts u = same_rows (node o ts) u
