-- Tables of row numbers: the rows that a table picks, one behind the other, are those of trees side by side.
-- Assumes nothing.
use Rattle.std.specs.Prelude.{◌≡◌, List, [], ◌∷◌, ◌++◌, map, ℕ, suc, ◌-◌, ◌≤◌, ◌<◌, length, get_or}
use Rattle.formula.specs.Tree.{Tree, lit, node, Forest, ∅, ◌▸◌, rows_all, count}
use Rattle.sheet.specs.Format.{Bytes, Row, row, Every}
use Rattle.sheet.specs.Sheet.{literal_kind, operator_kind, trees}
use Rattle.rows.specs.Formulas.{node_rows_in}
use Rattle.rows.specs.declared.Layout.{Layout}

-- a row, and how many rows its subtree has
pub record Entry : Type 0 where
  pub content : Row
  pub size : ℕ

abbrev pub entry : Row → ℕ → Entry
entry r n = record { content = r; size = n }

unfoldable mutual
  pub tree_entries : Tree → List Entry
  tree_entries (lit s v) = entry (row (literal_kind s) v) 1 ∷ []
  tree_entries (node o ts) = entry (row (operator_kind o) (count ts)) (suc (rows_all ts)) ∷ forest_entries ts

  pub forest_entries : Forest → List Entry
  forest_entries ∅ = []
  forest_entries (t ▸ ts) = tree_entries t ++ forest_entries ts

-- the rows that a table picks
abbrev pub row_in : Layout → Bytes → ℕ → Row
row_in s b i = get_or (node_rows_in s b) i (row 0 0)

unfoldable pub picked_rows : Layout → Bytes → List ℕ → List Row
picked_rows s b at = map (row_in s b) at

-- with the rows of their subtrees, by the table of ends
abbrev pub entry_in : Layout → Bytes → List ℕ → ℕ → Entry
entry_in s b ends i = entry (row_in s b i) (get_or ends i 0 - i)

unfoldable pub picked : Layout → Bytes → List ℕ → List ℕ → List Entry
picked s b ends at = map (entry_in s b ends) at

-- row numbers of the sheet
abbrev pub Numbers : Layout → List ℕ → Type 0
Numbers s at = Every (λ i. i < s.nodes) at

-- the trees whose rows a table picks; and that it picks whole trees, k at least
unfoldable pub standing : Layout → Bytes → List ℕ → Forest
standing s b at = trees (picked_rows s b at)

pub record Stands (s : Layout) (b : Bytes) (ends at : List ℕ) (k : ℕ) : Type 0 where
  pub whole : picked s b ends at ≡ forest_entries (standing s b at)
  pub few : k ≤ count (standing s b at)

-- how many rows the first tree of a table has, and that the table of ends has this tree's end
abbrev pub first_size : List ℕ → List ℕ → ℕ
first_size ends at = get_or ends (get_or at 0 0) 0 - get_or at 0 0

abbrev pub FirstSized : List ℕ → List ℕ → Type 0
FirstSized ends at = (0 < length at) × (get_or at 0 0 < length ends) × (get_or at 0 0 ≤ get_or ends (get_or at 0 0) 0)
