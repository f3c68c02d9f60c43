-- The innermost block by the rows of a prefix.
-- Assumes nothing.
use Rattle.std.specs.Prelude.{Bool, not, ◌&&◌, ℕ}
use Rattle.formula.specs.Tree.{same_op}
use Rattle.formula.specs.Expand.{occurs}
use Rattle.sheet.specs.Format.{Bytes}
use Rattle.rows.specs.Formulas.{matrix_in}
use Rattle.rows.specs.declared.Layout.{Layout}
use Rattle.prefixes.specs.Places.{binding_in}

-- row j is not of the kind of row i and has a literal
abbrev pub in_the_way : Layout → Bytes → ℕ → ℕ → Bool
in_the_way s b i j =
    not (same_op (binding_in s b i).quantifier (binding_in s b j).quantifier) && occurs (matrix_in s b) (binding_in s b j).variable
