-- Pairs as the rows that are written for them.
-- Assumes nothing.
use Rattle.std.specs.Prelude.{false, cond, List, [], ◌∷◌, ℕ, ◌+◌, ◌≤◌, ◌<◌, length}
use Rattle.formula.specs.Tree.{Quantifier, same_op, Tree, constant, Binding}
use Rattle.formula.specs.Strategy.{Pairs, left}
use Rattle.formula.specs.StrategyMatrix.{pair_trees}
use Rattle.sheet.specs.Format.{Bytes, Row, row}
use Rattle.sheet.specs.Sheet.{tree_rows, forest_rows}
use Rattle.rows.specs.Layouts.{Fits, total, Room}
use Rattle.rows.specs.Formulas.{prefix_in}
use Rattle.rows.specs.declared.Layout.{Layout}
use Rattle.substitution.specs.Output.{CopyReady}
use Rattle.prefixes.specs.Places.{binding_in}

-- an AND of two and the positive literal of x
abbrev pub head_rows : ℕ → List Row
head_rows x = row 5 2 ∷ row 3 x ∷ []

-- with the function's rows
abbrev pub one_pair : ℕ → Tree → List Row
one_pair x u = row 5 2 ∷ row 3 x ∷ tree_rows u

abbrev pub pair_rows : Pairs → List Row
pair_rows g = forest_rows (pair_trees g)

-- a row that is left: its pair, if it is of the side q
abbrev pub row_left : Quantifier → Binding → List Row
row_left q z = cond (same_op q z.quantifier) (one_pair z.variable (constant false)) []

-- room for the pair of x and a sheet's matrix
pub record PairReady (s : Layout) (b : Bytes) (t : Layout) (out : Bytes) (at x : ℕ) : Type 0 where
  pub ready : CopyReady s b t out
  pub fits : Fits t x
  pub room : at + (2 + s.nodes) ≤ total t

-- room for the pairs of the rows that are left
pub record LeftReady (q : Quantifier) (s : Layout) (b : Bytes) (t : Layout) (out : Bytes) (at : ℕ) : Type 0 where
  pub has_room : Room t (length out)
  pub fits : (i : ℕ) → i < s.variables → Fits t (binding_in s b i).variable
  pub room : at + length (pair_rows (left q (prefix_in s b))) ≤ total t
