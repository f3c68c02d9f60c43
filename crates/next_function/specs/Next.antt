-- The function of the variable that Solve takes next, as a sheet.
-- Assumes nothing.
use Rattle.std.specs.Prelude.{◌≡◌, ℕ, ◌-◌, ◌≤◌, ◌<◌}
use Rattle.formula.specs.Tree.{Formula}
use Rattle.formula.specs.Solve.{lowest, cheapest}
use Rattle.formula.specs.Strategy.{Move, moved, move_by}
use Rattle.sheet.specs.Format.{Bytes, sheet_length}
use Rattle.sheet.specs.Sheet.{sheet}
use Rattle.sheet.specs.Operations.{padded}
use Rattle.sheet.specs.Strategy.{response}
use Rattle.rows.specs.Layouts.{format_in}
use Rattle.rows.specs.Formulas.{formula_in, layout_for}
use Rattle.rows.specs.declared.Layout.{Layout}
use Rattle.polarity.specs.Value.{NumberedTo, Bound}
use Rattle.elimination.specs.Steps.{Steppable, Named}
use Rattle.next_function.specs.declared.NextFunction.{NextFunction}

-- Solve's next step
abbrev pub next_move : Formula → Move
next_move f = move_by (lowest f) (cheapest f)

-- a sheet from which a variable can be taken, and an output that is as long as it
pub record Choosable (s : Layout) (b : Bytes) (len : ℕ) : Type 0 where
  pub from : Steppable s b
  pub bound : Bound s b
  pub numbered : NumberedTo (format_in s).most_variables s b
  pub some_left : 0 < s.variables
  pub short : sheet_length (format_in s) s.variables s.nodes ≤ len

-- the variable of that step, and its function at the front of the output
pub record Answers (s : Layout) (b : Bytes) (len : ℕ) (r : NextFunction) (new : Bytes) : Type 0 where
  pub variable_is : moved (next_move (formula_in s b)) ≡ r.variable
  pub named : Named s b r.variable r.row
  pub bytes_are : new ≡ padded len (sheet (format_in s) (response r.variable (formula_in s b)))
  pub layout_is : r.sheet ≡ layout_for s.format (response r.variable (formula_in s b))
  pub sizes : (r.sheet.variables ≡ s.variables - 1) × (r.sheet.nodes ≤ s.nodes)
