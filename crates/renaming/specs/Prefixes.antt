-- The rows that close the prefix: one for each variable to which a table gives a new number, in the order of the prefix.
-- Assumes nothing.
use Rattle.std.specs.Prelude.{Bool, not, ◌&&◌, cond, List, [], ◌∷◌, ◌++◌, ℕ, eqb, leb}
use Rattle.formula.specs.Tree.{Prefix}
use Rattle.formula.specs.Outer.{existential}
use Rattle.sheet.specs.Format.{Row}
use Rattle.sheet.specs.Sheet.{binding_row}
use Rattle.substitution.specs.Changes.{entry}

-- does the table give v a new number?
abbrev pub is_renamed : List ℕ → ℕ → Bool
is_renamed t v = not (eqb (entry t v) v) && leb (entry t v) 1024

-- the row of v's copy, and those of all copies
unfoldable pub row_of : List ℕ → ℕ → List Row
row_of t v = cond (is_renamed t v) (binding_row (existential (entry t v)) ∷ []) []

unfoldable pub rows_from : List ℕ → Prefix → List Row
rows_from t [] = []
rows_from t (z ∷ p) = row_of t z.variable ++ rows_from t p
