-- Two runs of trees side by side in a table, while they are merged into another.
-- Assumes nothing.
use Rattle.std.specs.Prelude.{◌≡◌, List, ◌++◌, ℕ, ◌+◌, ◌≤◌, ◌<◌, length, take, drop}
use Rattle.formula.specs.Tree.{Forest, rows_all, ◌⧺◌}
use Rattle.sheet.specs.Format.{Bytes}
use Rattle.sheet.specs.Sheet.{front, behind}
use Rattle.rows.specs.declared.Layout.{Layout}
use Rattle.tree_order.specs.declared.merging.Runs.{Runs}
use Rattle.tree_order.specs.Tables.{Entry, forest_entries, picked, standing, Stands}
use Rattle.tree_order.specs.Arranging.{into, arrange, Ascending}

-- the trees that each run has left
abbrev pub left_trees : Layout → Bytes → List ℕ → Runs → Forest
left_trees s b at m = front m.lefts (standing s b (drop m.left at))

abbrev pub right_trees : Layout → Bytes → List ℕ → Runs → Forest
right_trees s b at m = front m.rights (standing s b (drop m.right at))

-- both runs are in order, and the gap between what is merged and the right run's rest has room for just the left run's rest
pub record Merger (s : Layout) (b : Bytes) (ends at : List ℕ) (m : Runs) : Type 0 where
  pub left_stands : Stands s b ends (drop m.left at) m.lefts
  pub right_stands : Stands s b ends (drop m.right at) m.rights
  pub left_ascends : Ascending (left_trees s b at m)
  pub right_ascends : Ascending (right_trees s b at m)
  pub meets : m.to + rows_all (left_trees s b at m) ≡ m.right
  pub within : m.right + rows_all (right_trees s b at m) ≤ length at

-- what is merged already, then the merge of what is left
abbrev pub merged : Layout → Bytes → List ℕ → List ℕ → List ℕ → Runs → List Entry
merged s b ends at spare m = take m.to (picked s b ends spare) ++ forest_entries (into (left_trees s b at m) (right_trees s b at m))

-- one tree more is merged
pub record Turned (s : Layout) (b : Bytes) (ends at spare spare' : List ℕ) (m m' : Runs) : Type 0 where
  pub merger : Merger s b ends at m'
  pub same_merged : merged s b ends at spare' m' ≡ merged s b ends at spare m
  pub same_rest : behind m'.rights (standing s b (drop m'.right at)) ≡ behind m.rights (standing s b (drop m.right at))
  pub same_length : length spare' ≡ length spare
  pub less : m'.lefts + m'.rights < m.lefts + m.rights

-- both runs merged, with the trees behind them
abbrev pub all_merged : Layout → Bytes → List ℕ → Runs → Forest
all_merged s b at m = into (left_trees s b at m) (right_trees s b at m) ⧺ behind m.rights (standing s b (drop m.right at))

-- the first k trees put in order, with those behind them
abbrev pub arranged : ℕ → Forest → Forest
arranged k ts = arrange (front k ts) ⧺ behind k ts
