-- Where the literals of each variable stand, by two tables. `ranges` has two entries for each variable number x: at 2x the row of
-- its first literal, or N, and next to it that of its last one. `next` has one for each node row.
-- Assumes nothing.
use Rattle.std.specs.Prelude.{◌≡◌, true, false, List, ℕ, suc, ◌+◌, ◌*◌, ◌≤◌, ◌<◌, ltb, length, get_or}
use Rattle.formula.specs.Tree.{Tree, lit, node, of, has, has_any}
use Rattle.formula.specs.Settle.{is_lit}
use Rattle.sheet.specs.Format.{Bytes}
use Rattle.rows.specs.Formulas.{matrix_in}
use Rattle.rows.specs.declared.Layout.{Layout}
use Rattle.subtrees.specs.Subtrees.{forest_in, subtree_in}
use Rattle.occurrences.specs.Chains.{first_from, Last, Chain}

-- by variable number: whether a literal of it stands in the matrix, and if so their chain
pub record Occurrences (s : Layout) (b : Bytes) (ranges next : List ℕ) : Type 0 where
  pub holds : length ranges ≡ 2050
  pub tells : (x : ℕ) → x ≤ 1024 → ltb (get_or ranges (2 * x) 0) s.nodes ≡ has (of x) (matrix_in s b)
  pub absent : (x : ℕ) → x ≤ 1024 → has (of x) (matrix_in s b) ≡ false → get_or ranges (2 * x) 0 ≡ s.nodes
  pub chained : (x : ℕ) → x ≤ 1024 → has (of x) (matrix_in s b) ≡ true
      → Chain (of x) s b next (get_or ranges (2 * x) 0) (get_or ranges (2 * x + 1) 0)

-- the first table alone: whether a literal of the variable stands in the matrix
pub record Occurring (s : Layout) (b : Bytes) (ranges : List ℕ) : Type 0 where
  pub holds : length ranges ≡ 2050
  pub tells : (x : ℕ) → x ≤ 1024 → ltb (get_or ranges (2 * x) 0) s.nodes ≡ has (of x) (matrix_in s b)

-- While the tables are filled.

-- the variable of a literal; for an operator 1025, a number that no table has
abbrev pub variable_of : Tree → ℕ
variable_of (lit s v) = v
variable_of (node o ts) = 1025

-- by variable number: the first literal from row i on, or N
pub record Firsts (s : Layout) (b : Bytes) (i : ℕ) (ranges : List ℕ) : Type 0 where
  pub holds : length ranges ≡ 2050
  pub is : (x : ℕ) → x ≤ 1024 → get_or ranges (2 * x) 0 ≡ first_from (of x) s b i

-- by row, from row i on: after a literal the next one of its variable, or N
pub record Nexts (s : Layout) (b : Bytes) (i : ℕ) (next : List ℕ) : Type 0 where
  pub holds : s.nodes ≤ length next
  pub is : (x : ℕ) → x ≤ 1024 → (j : ℕ) → i ≤ j → j < s.nodes → is_lit (of x) (subtree_in s b j) ≡ true
      → get_or next j 0 ≡ first_from (of x) s b (suc j)

-- by variable number: the last literal, if there is one and it is before row i
pub record Lasts (s : Layout) (b : Bytes) (i : ℕ) (ranges : List ℕ) : Type 0 where
  pub holds : length ranges ≡ 2050
  pub is : (x : ℕ) → x ≤ 1024 → has (of x) (matrix_in s b) ≡ true → has_any (of x) (forest_in s b i) ≡ false
      → Last (of x) s b (get_or ranges (2 * x + 1) 0)

-- the entries for the first literals are as they were
abbrev pub FirstsKept : List ℕ → List ℕ → Type 0
FirstsKept before ranges = (x : ℕ) → get_or ranges (2 * x) 0 ≡ get_or before (2 * x) 0
