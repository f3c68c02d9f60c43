-- What an expansion is written by.
-- Assumes nothing.
use Rattle.std.specs.Prelude.{◌≡◌, true, false, List, [], ◌∷◌, ◌++◌, map, ℕ, suc, ◌+◌, ◌≤◌, ◌<◌, length, get_or, drop}
use Rattle.formula.specs.Tree.{Tree, rows, has}
use Rattle.formula.specs.Expand.{expand_tree, raw_tree, raw_rows}
use Rattle.sheet.specs.Format.{Bytes, Row, row}
use Rattle.sheet.specs.Sheet.{operator_kind, tree_rows}
use Rattle.rows.specs.Layouts.{total, Room}
use Rattle.rows.specs.Formulas.{node_rows_in, matrix_in, Readable}
use Rattle.rows.specs.declared.Layout.{Layout}
use Rattle.subtrees.specs.Subtrees.{top, kids, subtree_in}
use Rattle.substitution.specs.Changes.{changed_row}
use Rattle.substitution.specs.Output.{CopyReady}
use Rattle.subtrees.specs.Cuts.{cuts, every_other}
use Rattle.subtrees.specs.Parts.{relevant_subtree}
use Rattle.raw.specs.Formulas.{first_table, second_table, chosen_by, operator_of, copying_by, raw_layout}
use Rattle.raw.specs.declared.expand.Expansion.{Expansion}
use Rattle.raw.specs.declared.runs.Head.{Head}

-- rows at which runs begin, in ascending order from row lo on, the last at most n
abbrev pub Climbs : ℕ → List ℕ → ℕ → Type 0
Climbs lo [] n = lo ≤ n
Climbs lo (c ∷ cs) n = (lo ≤ c) × Climbs c cs n

-- the rows of every other run of a sheet, from the first of these cuts on
abbrev pub runs_in : Layout → Bytes → List ℕ → List Row
runs_in s b cs = every_other cs (node_rows_in s b)

-- a sheet, cuts in its rows, and an output with room for every other run from row at on
pub record Runnable (s : Layout) (b : Bytes) (cs : List ℕ) (t : Layout) (out : Bytes) (at : ℕ) : Type 0 where
  pub readable : Readable s b
  pub ready : CopyReady s b t out
  pub climbs : Climbs 0 cs s.nodes
  pub room : at + length (runs_in s b cs) ≤ total t

-- an operator's row above a copy, and rows changed by a table below it
abbrev pub head_row : Head → Row
head_row h = row h.kind h.children

abbrev pub below : Row → List ℕ → List Row → List Row
below head t rs = head ∷ map (changed_row t) rs

-- the rows of two copies, each below the same operator's row, under a joint of the kind k
unfoldable pub joined : ℕ → Row → List ℕ → List ℕ → List Row → List Row
joined k head first second rs = row k 2 ∷ (below head first rs ++ below head second rs)

-- a sheet, two tables, the joint's kind, a layout with the raw sheet's nodes and any number of variables, and room for it
pub record Copyable (s : Layout) (b : Bytes) (tables : List ℕ) (e : Expansion) (out : Bytes) : Type 0 where
  pub readable : Readable s b
  pub two_tables : length tables ≡ 2050
  pub joins : e.joint ≡ operator_kind (operator_of e.joint)
  pub same_format : e.layout.format ≡ s.format
  pub few_variables : e.layout.variables ≤ 1024
  pub nodes_are : e.layout.nodes ≡ raw_rows (chosen_by tables) (matrix_in s b)
  pub room : Room e.layout (length out)

-- the same with the prefix row that goes, where no row is added to the prefix
pub record Expandable (s : Layout) (b : Bytes) (tables : List ℕ) (e : Expansion) (out : Bytes) : Type 0 where
  pub readable : Readable s b
  pub two_tables : length tables ≡ 2050
  pub in_prefix : e.row < s.variables
  pub joins : e.joint ≡ operator_kind (operator_of e.joint)
  pub layout_is : e.layout ≡ raw_layout s (raw_rows (chosen_by tables) (matrix_in s b))
  pub room : Room e.layout (length out)

-- the subtree that an expansion replaces, whole or in part, and its children's cuts
abbrev pub part_in : Layout → Bytes → Expansion → Tree
part_in s b e = subtree_in s b e.relevant.operator

abbrev pub cuts_in : Layout → Bytes → List ℕ → Expansion → List ℕ
cuts_in s b tables e = cuts (chosen_by tables) (suc e.relevant.operator) (kids (part_in s b e))

-- a chosen literal occurs: the relevant subtree, and the row behind it
pub record Located (s : Layout) (b : Bytes) (tables : List ℕ) (e : Expansion) : Type 0 where
  pub present : has (chosen_by tables) (matrix_in s b) ≡ true
  pub part_is : e.relevant ≡ relevant_subtree (chosen_by tables) 0 (matrix_in s b)
  pub end_is : e.end ≡ e.relevant.operator + rows (part_in s b e)

-- and where not every child is relevant, the cuts of its children
abbrev pub Found : Layout → Bytes → List ℕ → List ℕ → Expansion → Type 0
Found s b tables cs e = Located s b tables e × (e.relevant.all ≡ false → cs ≡ cuts_in s b tables e)

-- whether a chosen literal occurs, and if so its relevant subtree
abbrev pub Told : Layout → Bytes → List ℕ → List ℕ → Expansion → Type 0
Told s b tables cs e = (e.occurs ≡ has (chosen_by tables) (matrix_in s b)) × (e.occurs ≡ true → Found s b tables cs e)

-- the rows of the raw sheet's matrix
abbrev pub raw_matrix : Layout → Bytes → List ℕ → Expansion → List Row
raw_matrix s b tables e = tree_rows (raw_tree (copying_by tables e.joint) (matrix_in s b))

-- what replaces the subtree, and the row from which it is written
abbrev pub new_rows : Layout → Bytes → List ℕ → Expansion → List Row
new_rows s b tables e = tree_rows (expand_tree (copying_by tables e.joint) (part_in s b e))

abbrev pub new_at : Expansion → ℕ
new_at e = e.layout.variables + e.relevant.operator

-- where not every child is relevant: the joint over the copies, and the row from which they are written
abbrev pub joined_in : Layout → Bytes → List ℕ → List ℕ → Expansion → List Row
joined_in s b tables cs e =
    joined e.joint (row (top (part_in s b e)).kind e.relevant.children) (first_table tables) (second_table tables)
    (runs_in s b (drop 1 cs))

abbrev pub joined_at : Expansion → List ℕ → ℕ
joined_at e cs = e.layout.variables + get_or cs 1 0
