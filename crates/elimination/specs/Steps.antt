-- Sheets on which a step can be taken.
-- Assumes nothing.
use Rattle.std.specs.Prelude.{◌≡◌, ℕ, ◌-◌, ◌≤◌, ◌<◌}
use Rattle.formula.specs.Tree.{Formula}
use Rattle.formula.specs.Settle.{settled}
use Rattle.sheet.specs.Format.{Bytes, sheet_length}
use Rattle.rows.specs.Layouts.{format_in}
use Rattle.rows.specs.Formulas.{prefix_in, Readable}
use Rattle.rows.specs.declared.Layout.{Layout}
use Rattle.prefixes.specs.Places.{place}
use Rattle.elimination.specs.declared.settling.Put.{Put}

-- a sheet within the limits of its format
pub record Steppable (s : Layout) (b : Bytes) : Type 0 where
  pub readable : Readable s b
  pub few_variables : s.variables ≤ (format_in s).most_variables
  pub few_nodes : s.nodes ≤ (format_in s).most_nodes

-- row i is that of x, a number that the tables have
pub record Named (s : Layout) (b : Bytes) (x i : ℕ) : Type 0 where
  pub inside : i < s.variables
  pub row_is : i ≡ place x (prefix_in s b)
  pub few : x ≤ 1024

-- a variable that is put in, with len bytes for the raw sheet
pub record Puts (s : Layout) (b : Bytes) (p : Put) (len : ℕ) : Type 0 where
  pub from : Steppable s b
  pub named : Named s b p.variable p.row
  pub room : sheet_length (format_in s) (s.variables - 1) s.nodes ≤ len

abbrev pub settled_by : Put → Formula → Formula
settled_by p f = settled p.variable p.value f
