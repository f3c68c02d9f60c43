-- Rows that are written for a row of the matrix, and what the writing needs.
-- Assumes nothing.
use Rattle.std.specs.Prelude.{Bool, true, false, List, [], ◌∷◌, ◌++◌, ℕ, suc, ◌≤◌, ◌<◌, length, get_or}
use Rattle.formula.specs.Tree.{and, or, Tree, lit, node, count}
use Rattle.formula.specs.Clausal.{implies, conjuncts}
use Rattle.sheet.specs.Format.{Bytes, Row, row}
use Rattle.sheet.specs.Sheet.{tree_rows, forest_rows}
use Rattle.rows.specs.Layouts.{Fits}
use Rattle.rows.specs.Formulas.{matrix_in, Readable}
use Rattle.rows.specs.declared.Layout.{Layout}
use Rattle.subtrees.specs.Subtrees.{top, subtree_in}
use Rattle.clauses.specs.declared.write.Place.{Place}
use Rattle.clauses.specs.declared.write.Child.{Child}
use Rattle.clauses.specs.Inner.Named.{named_by, names_from, unit_clause, own_clauses, clauses_from, first_conjunct}

-- a readable sheet every literal of which is a number of its format, with a table of names
pub record Named (s : Layout) (b : Bytes) (names : List ℕ) : Type 0 where
  pub readable : Readable s b
  pub literals_fit : (i : ℕ) → i < s.nodes → Fits s (top (subtree_in s b i)).argument
  pub has_entries : s.nodes ≤ length names

-- the front of a child's clause, "name implies": n is the operator's name
abbrev pub implied_rows : Bool → ℕ → List Row
implied_rows true n = row 6 2 ∷ row 4 n ∷ []
implied_rows false n = []

abbrev pub child_rows : Bool → ℕ → Tree → List Row
child_rows each n t = implied_rows each n ++ tree_rows t

-- the rows behind an operator's own
abbrev pub below_rows : List ℕ → ℕ → Tree → List Row
below_rows L r (lit s v) = []
below_rows L r (node and ts) = forest_rows (implies and (get_or L r 0) (names_from L (suc r) ts))
below_rows L r (node or ts) = forest_rows (names_from L (suc r) ts)

-- the rows in front of these
abbrev pub head_rows : List ℕ → ℕ → Bool → Tree → List Row
head_rows L r c (lit s v) = forest_rows (unit_clause c (get_or L r 0) (lit s v))
head_rows L r c (node and ts) = forest_rows (unit_clause c (get_or L r 0) (node and ts))
head_rows L r true (node or ts) = row 6 (count ts) ∷ []
head_rows L r false (node or ts) = row 6 (suc (count ts)) ∷ row 4 (get_or L r 0) ∷ []

-- the same of a place in a sheet: a child's name or clause; what stands in front of a row's children; a row's clauses; and all clauses
abbrev pub child_in : Layout → Bytes → List ℕ → Child → List Row
child_in s b L c = child_rows c.each (get_or L c.operator 0) (named_by (get_or L c.row 0) (subtree_in s b c.row))

abbrev pub head_in : Layout → Bytes → List ℕ → Place → List Row
head_in s b L p = head_rows L p.row p.conjunct (subtree_in s b p.row)

abbrev pub own_in : Layout → Bytes → List ℕ → Place → List Row
own_in s b L p = forest_rows (own_clauses L p.row p.conjunct (subtree_in s b p.row))

abbrev pub clauses_in : Layout → Bytes → List ℕ → List Row
clauses_in s b L = forest_rows (clauses_from L (first_conjunct (matrix_in s b)) (conjuncts (matrix_in s b)))
