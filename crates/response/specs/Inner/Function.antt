-- The function of a variable as its rows are written.
-- Assumes nothing.
use Rattle.std.specs.Prelude.{◌≡◌, Bool, true, cond, List, ℕ, suc, ◌+◌, ◌-◌, length}
use Rattle.std.proofs.Math.Option.{none, some}
use Rattle.formula.specs.Tree.{rows, replace}
use Rattle.formula.specs.Settle.{may_settle}
use Rattle.formula.specs.Strategy as strategy
use Rattle.sheet.specs.Format.{Bytes, Row, fits}
use Rattle.sheet.specs.Sheet.{tree_rows}
use Rattle.rows.specs.Layouts.{format_in, Room}
use Rattle.rows.specs.Formulas.{matrix_in, formula_in, Readable}
use Rattle.rows.specs.declared.Layout.{Layout}
use Rattle.subtrees.specs.Subtrees.{kids, subtree_in}
use Rattle.subtrees.specs.Cuts.{cuts}
use Rattle.subtrees.specs.Parts.{relevant_subtree}
use Rattle.substitution.specs.Changes.{chosen, changed}
use Rattle.elimination.specs.Steps.{Steppable, Named}
use Rattle.elimination.specs.Expanding.{Prepared}
use Rattle.elimination.specs.declared.settling.Put.{Put}
use Rattle.elimination.specs.declared.survey.Survey.{Survey}
use Rattle.response.specs.declared.function.Selection.{Selection}

-- AND of nothing is true, OR of nothing false
abbrev pub constant_kind : Bool → ℕ
constant_kind c = cond c 5 6

-- the rows of the relevant subtree of the literals that a table changes, changed by it
abbrev pub selected_rows : Layout → Bytes → List ℕ → List Row
selected_rows s b t = tree_rows (replace (changed t) (strategy.relevant_subtree (chosen t) (matrix_in s b)))

-- the relevant subtree is found, and has its place behind the prefix of a layout of the same format
pub record SelectionReady (s : Layout) (b : Bytes) (t : List ℕ) (p : Selection) (out : Bytes) : Type 0 where
  pub readable : Readable s b
  pub part_is : p.relevant ≡ relevant_subtree (chosen t) 0 (matrix_in s b)
  pub end_is : p.end ≡ p.relevant.operator + rows (subtree_in s b p.relevant.operator)
  pub same_format : p.layout.format ≡ s.format
  pub nodes_are : p.layout.nodes ≡ p.relevant.rows
  pub room : Room p.layout (length out)

-- the cuts of its operator's children
abbrev pub SelectionCuts : Layout → Bytes → List ℕ → Selection → List ℕ → Type 0
SelectionCuts s b t p cs = cs ≡ cuts (chosen t) (suc p.relevant.operator) (kids (subtree_in s b p.relevant.operator))

-- the function is the constant that Settle puts in, and its sheet fits len bytes
pub record ByConstant (s : Layout) (b : Bytes) (p : Put) (len : ℕ) : Type 0 where
  pub from : Steppable s b
  pub named : Named s b p.variable p.row
  pub value_is : may_settle p.variable (formula_in s b) ≡ some p.value
  pub has_room : fits (format_in s) len (s.variables - 1) 1 ≡ true

-- the function is copied from the relevant subtree of x, and its raw sheet fits len bytes
pub record ByCopy (s : Layout) (b : Bytes) (x : ℕ) (table : List ℕ) (w : Survey) (len : ℕ) : Type 0 where
  pub from : Steppable s b
  pub named : Named s b x w.to.row
  pub prepared : Prepared s b x w.to.row table w
  pub unsettled : may_settle x (formula_in s b) ≡ none
  pub has_room : fits (format_in s) len (s.variables - 1) w.to.relevant.rows ≡ true
