-- Some of a root's children, by the rows at which they begin and the table of subtree ends.
-- Assumes nothing.
use Rattle.std.specs.Prelude.{◌≡◌, List, [], ◌∷◌, ◌++◌, ℕ, ◌+◌, ◌≤◌, ◌<◌, length, get_or}
use Rattle.std.proofs.Math.Seq.{slice}
use Rattle.formula.specs.Tree.{Forest, rows_all, count}
use Rattle.formula.specs.Guards.{conjoined}
use Rattle.sheet.specs.Format.{Bytes, Row}
use Rattle.sheet.specs.Sheet.{trees, forest_rows}
use Rattle.sheet.specs.Limits.{Within}
use Rattle.rows.specs.Layouts.{format_in, Fits, total, size}
use Rattle.rows.specs.Formulas.{prefix_in, node_rows_in, Readable}
use Rattle.rows.specs.declared.Layout.{Layout}
use Rattle.substitution.specs.Output.{CopyReady}
use Rattle.guards.specs.declared.selection.Selection.{Selection}

-- the rows of the children that begin at these rows, each to its end
unfoldable pub children_of : List ℕ → List ℕ → List Row → List Row
children_of ends [] rs = []
children_of ends (k ∷ ks) rs = slice k (get_or ends k 0) rs ++ children_of ends ks rs

abbrev pub children_rows : Layout → Bytes → List ℕ → List ℕ → List Row
children_rows s b ends ks = children_of ends ks (node_rows_in s b)

-- the children are one behind the other from row lo on, none is empty, and the last ends at row n at most
abbrev pub Placed : List ℕ → ℕ → List ℕ → ℕ → Type 0
Placed ends lo [] n = lo ≤ n
Placed ends lo (k ∷ ks) n = (lo ≤ k) × (k < get_or ends k 0) × Placed ends (get_or ends k 0) ks n

-- these children's rows, then all rows from row rest on
abbrev pub part_rows : Layout → Bytes → List ℕ → List ℕ → ℕ → List Row
part_rows s b ends ks rest = children_rows s b ends ks ++ slice rest s.nodes (node_rows_in s b)

-- these children as trees
abbrev pub guards_in : Layout → Bytes → List ℕ → List ℕ → ℕ → Forest
guards_in s b ends ks rest = trees (part_rows s b ends ks rest)

-- the layout of the prefix and the root over these children
abbrev pub selection_layout : Layout → Selection → Layout
selection_layout s p = record { format = s.format; variables = s.variables; nodes = p.rows + 1 }

-- children of a readable sheet, and an output with room for them from row at on
pub record Copyable (s : Layout) (b : Bytes) (ends ks : List ℕ) (t : Layout) (out : Bytes) (at : ℕ) : Type 0 where
  pub readable : Readable s b
  pub ready : CopyReady s b t out
  pub holds : s.nodes ≤ length ends
  pub placed : Placed ends 0 ks s.nodes
  pub room : at + length (children_rows s b ends ks) ≤ total t

-- so many children of a readable sheet, of so many rows, without the root's own row
pub record Chosen (s : Layout) (b : Bytes) (ends ks : List ℕ) (p : Selection) : Type 0 where
  pub readable : Readable s b
  pub holds : s.nodes ≤ length ends
  pub placed : Placed ends 0 ks p.rest
  pub rest_within : p.rest ≤ s.nodes
  pub are : forest_rows (guards_in s b ends ks p.rest) ≡ part_rows s b ends ks p.rest
  pub counted : p.guards ≡ count (guards_in s b ends ks p.rest)
  pub long : p.rows ≡ rows_all (guards_in s b ends ks p.rest)
  pub no_more : p.rows < s.nodes
  pub fit : Fits s p.guards

-- children that a run can be entered with, in two buffers that both have so much room
pub record Tried (s : Layout) (b : Bytes) (ends ks : List ℕ) (p : Selection) (most : ℕ) : Type 0 where
  pub chosen : Chosen s b ends ks p
  pub within : Within (format_in s) (conjoined (prefix_in s b) (guards_in s b ends ks p.rest))
  pub has_room : size s ≤ most
