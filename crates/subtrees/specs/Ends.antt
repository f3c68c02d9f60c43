-- Where the subtrees of a matrix end, row by row in preorder.
-- Assumes nothing.
use Rattle.std.specs.Prelude.{◌≡◌, List, [], ◌∷◌, ◌++◌, ℕ, zero, suc, ◌+◌, ◌≤◌, ◌<◌, length, get_or, take}
use Rattle.formula.specs.Tree.{Tree, lit, node, Forest, ∅, ◌▸◌, rows, rows_all}
use Rattle.sheet.specs.Format.{Bytes}
use Rattle.rows.specs.Formulas.{matrix_in, Readable}
use Rattle.rows.specs.declared.Layout.{Layout}

-- for each row the row behind the subtree that starts there, where the first row is row i
unfoldable mutual
  pub subtree_ends : ℕ → Tree → List ℕ
  subtree_ends i (lit s v) = suc i ∷ []
  subtree_ends i (node o ts) = (suc i + rows_all ts) ∷ forest_ends (suc i) ts

  pub forest_ends : ℕ → Forest → List ℕ
  forest_ends i ∅ = []
  forest_ends i (t ▸ ts) = subtree_ends i t ++ forest_ends (i + rows t) ts

-- a readable sheet with a table whose first entries are the ends of its matrix
pub record Indexed (s : Layout) (b : Bytes) (ends : List ℕ) : Type 0 where
  pub readable : Readable s b
  pub holds : s.nodes ≤ length ends
  pub filled : take s.nodes ends ≡ subtree_ends 0 (matrix_in s b)

-- the row behind k subtrees side by side from row i on, by a table; and that the table has entries for them
unfoldable pub hops : List ℕ → ℕ → ℕ → ℕ
hops ends i zero = i
hops ends i (suc k) = hops ends (get_or ends i 0) k

abbrev pub Hops : List ℕ → ℕ → ℕ → Type 0
Hops ends i zero = Unit {0}
Hops ends i (suc k) = (i < length ends) × Hops ends (get_or ends i 0) k
