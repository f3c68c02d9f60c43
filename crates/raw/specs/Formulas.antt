-- The formulas of raw sheets, before the tree is tidied ("Settle x", "Expand x").
-- Assumes nothing.
use Rattle.std.specs.Prelude.{◌≡◌, cond, List, ◌++◌, ℕ, suc, ◌-◌, eqb, take, drop}
use Rattle.formula.specs.Tree.{Op, and, or, Prefix, Formula, Literals, replace}
use Rattle.formula.specs.Expand.{Copying, raw_tree}
use Rattle.sheet.specs.Format.{Bytes}
use Rattle.sheet.specs.Sheet.{formula_rows}
use Rattle.rows.specs.Layouts.{rows_in, Kept}
use Rattle.rows.specs.declared.Layout.{Layout}
use Rattle.substitution.specs.Changes.{chosen, changed}

-- the prefix without row i
unfoldable pub without_row : ℕ → Prefix → Prefix
without_row i p = take i p ++ drop (suc i) p

-- row i goes, and each literal becomes what the table says
unfoldable pub settled_raw : ℕ → List ℕ → Formula → Formula
settled_raw i t f = record { prefix = without_row i f.prefix; matrix = replace (changed t) f.matrix }

-- Two tables of 1,025 entries, one behind the other: the first copy's and the second copy's. The literals that the second one changes are
-- the chosen ones.
abbrev pub first_table : List ℕ → List ℕ
first_table ts = take 1025 ts

abbrev pub second_table : List ℕ → List ℕ
second_table ts = drop 1025 ts

abbrev pub chosen_by : List ℕ → Literals
chosen_by ts = chosen (second_table ts)

-- the operator of a kind
abbrev pub operator_of : ℕ → Op
operator_of k = cond (eqb k 5) and or

-- what an expansion copies by two tables, its copies joined by an operator of the kind k
abbrev pub copying_by : List ℕ → ℕ → Copying
copying_by ts k =
    record {
      chosen = chosen_by ts;
      joint = operator_of k;
      first = changed (first_table ts);
      second = changed (second_table ts);
    }

-- row i goes, and the relevant subtree is replaced by two copies; without a chosen literal the matrix stays
unfoldable pub expanded_raw : ℕ → Copying → Formula → Formula
expanded_raw i c f = record { prefix = without_row i f.prefix; matrix = raw_tree c f.matrix }

-- a raw sheet's layout: one variable less, and so many nodes
abbrev pub raw_layout : Layout → ℕ → Layout
raw_layout s n = record { format = s.format; variables = s.variables - 1; nodes = n }

-- the rows of a formula are written as all the rows of a layout
pub record Raw (t : Layout) (old new : Bytes) (g : Formula) : Type 0 where
  pub all_rows : rows_in t new ≡ formula_rows g
  pub around : Kept t old new
