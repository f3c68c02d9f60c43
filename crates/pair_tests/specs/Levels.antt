-- The levels of variables by a table with an entry for each variable number: 0 for a variable without a pair so far, else one more than
-- its level.
-- Assumes nothing.
use Rattle.std.specs.Prelude.{◌≡◌, true, cond, List, [], ◌∷◌, ℕ, ◌-◌, ◌≤◌, ◌<◌, eqb, leb, get_or}
use Rattle.formula.specs.Tree.{Quantifier, Prefix, binds}
use Rattle.formula.specs.Strategy.{Pairs, in_order}
use Rattle.formula.specs.Inner.Pairs.{larger, level}
use Rattle.sheet.specs.Format.{Bytes, Row}
use Rattle.sheet.specs.Strategy.{fault_row}
use Rattle.rows.specs.Layouts.{total}
use Rattle.rows.specs.Formulas.{prefix_in}
use Rattle.rows.specs.declared.Layout.{Layout}
use Rattle.substitution.specs.declared.Span.{Span}
use Rattle.reduce.specs.Inner.Places.{row_of, variable_of}

unfoldable pub level_by : Quantifier → Prefix → List ℕ → ℕ → ℕ
level_by q p t x = cond (eqb (get_or t x 0) 0) (level q p [] x) (get_or t x 0 - 1)

-- the number of a row's literal, 0 of an operator, and the largest of several rows
unfoldable pub row_level : (ℕ → ℕ) → Row → ℕ
row_level d r = cond (leb r.kind 4) (d r.argument) 0

unfoldable pub deepest_row : (ℕ → ℕ) → List Row → ℕ
deepest_row d [] = 0
deepest_row d (r ∷ rs) = larger (row_level d r) (deepest_row d rs)

-- row r is one of the sheet, and if it is a literal, its variable is bound
pub record Standing (s : Layout) (b : Bytes) (r : ℕ) : Type 0 where
  pub inside : r < total s
  pub is_bound : (row_of s b r).kind ≤ 4 → binds (prefix_in s b) (variable_of s b r) ≡ true

-- so are the rows of a span
pub record Function (s : Layout) (b : Bytes) (span : Span) : Type 0 where
  pub ordered : span.from ≤ span.to
  pub inside : span.to ≤ total s
  pub rows_stand : (r : ℕ) → span.from ≤ r → r < span.to → Standing s b r

-- the node row of the pair at fault, 0 if there is none
unfoldable pub fault_in : Quantifier → Prefix → Pairs → ℕ
fault_in q p g = cond (in_order q p g) 0 (fault_row q p 1 g)
