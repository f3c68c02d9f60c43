-- The prefix by the numbers of its rows.
-- Assumes nothing.
use Rattle.std.specs.Prelude.{cond, [], ◌∷◌, ℕ, suc, eqb, get_or}
use Rattle.formula.specs.Tree.{Binding, Prefix}
use Rattle.formula.specs.Expand.{all_of}
use Rattle.sheet.specs.Format.{Bytes, row}
use Rattle.sheet.specs.Sheet.{binding}
use Rattle.rows.specs.Formulas.{prefix_in}
use Rattle.rows.specs.declared.Layout.{Layout}

-- the row of x, or how many rows there are if x is not in the prefix
unfoldable pub place : ℕ → Prefix → ℕ
place x [] = 0
place x (z ∷ p) = cond (eqb z.variable x) 0 (suc (place x p))

-- row i
unfoldable pub binding_at : Prefix → ℕ → Binding
binding_at p i = get_or p i (binding (row 0 0))

abbrev pub binding_in : Layout → Bytes → ℕ → Binding
binding_in s b i = binding_at (prefix_in s b) i

-- the first row from which on all rows are of one kind
unfoldable pub block_start : Prefix → ℕ
block_start [] = 0
block_start (z ∷ p) = cond (all_of z.quantifier p) 0 (suc (block_start p))
