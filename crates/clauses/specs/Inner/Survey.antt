-- What is counted of a matrix before its clauses are written.
-- Assumes nothing.
use Rattle.std.specs.Prelude.{◌≡◌, false, List, ℕ, ◌≤◌, length, take, drop}
use Rattle.formula.specs.Tree.{rows_all, count}
use Rattle.formula.specs.Clausal.{conjuncts, named_all, too_few_names}
use Rattle.sheet.specs.Format.{Bytes}
use Rattle.sheet.specs.Sheet.{formula}
use Rattle.rows.specs.Layouts.{format_in}
use Rattle.rows.specs.Formulas.{matrix_in}
use Rattle.rows.specs.declared.Layout.{Layout}
use Rattle.checking.specs.Sheets.{Sheet}
use Rattle.subtrees.specs.Ends.{Indexed}
use Rattle.clauses.specs.declared.survey.Size.{Size}
use Rattle.clauses.specs.Inner.Named.{clauses_from, marks_conjuncts, first_conjunct}

-- names, clauses and rows of the clauses of a matrix, whatever the names are; a table has for each row how many names come before it
pub record Surveyed (s : Layout) (b : Bytes) (table : List ℕ) (z : Size) : Type 0 where
  pub names_are : z.names ≡ named_all (conjuncts (matrix_in s b))
  pub clauses_are : (L : List ℕ) → z.clauses ≡ count (clauses_from L (first_conjunct (matrix_in s b)) (conjuncts (matrix_in s b)))
  pub rows_are : (L : List ℕ) → z.rows ≡ rows_all (clauses_from L (first_conjunct (matrix_in s b)) (conjuncts (matrix_in s b)))
  pub are_numbered : drop (first_conjunct (matrix_in s b)) (take s.nodes table) ≡ marks_conjuncts (λ i. i) 0 (conjuncts (matrix_in s b))

-- a sheet that Check accepts, surveyed, with numbers enough for its names
pub record Clausable (b : Bytes) (s : Layout) (ends table : List ℕ) (z : Size) : Type 0 where
  pub checked : Sheet s.format b s
  pub indexed : Indexed s b ends
  pub has_entries : s.nodes ≤ length table
  pub surveyed : Surveyed s b table z
  pub enough : too_few_names (format_in s).most_variables (formula (format_in s) b) ≡ false
