-- The turns of Trial from a prefix row on, under the assignment that a table holds.
-- Assumes nothing.
use Rattle.std.specs.Prelude.{◌≡◌, Bool, false, List, ℕ, ◌≤◌, ◌<◌, drop, get_or}
use Rattle.formula.specs.Tree.{Prefix}
use Rattle.formula.specs.Truth.{Assignment, eval}
use Rattle.formula.specs.Trial as formula
use Rattle.formula.specs.Trial.{try}
use Rattle.sheet.specs.Format.{Bytes}
use Rattle.rows.specs.Formulas.{prefix_in, node_rows_in, matrix_in, Readable}
use Rattle.rows.specs.declared.Layout.{Layout}
use Rattle.prefixes.specs.Places.{binding_in}
use Rattle.trial.specs.declared.Tried.{Tried}
use Rattle.jumps.specs.Jumps.{Rooms, Jumps}

-- the assignment that a table holds
abbrev pub values : List Bool → Assignment
values table x = get_or table x false

-- the verdict and the leaves tried
abbrev pub tried : Tried → formula.Tried
tried o = record { verdict = o.verdict; leaves = o.leaves }

-- the prefix from row i on: the rows not yet read
unfoldable pub unread : Layout → Bytes → ℕ → Prefix
unread s b i = drop i (prefix_in s b)

unfoldable pub turns : Layout → Bytes → ℕ → List Bool → formula.Tried
turns s b i table = try (unread s b i) (eval (matrix_in s b)) (values table)

-- the whole semantic tree; every literal is bound, so the first assignment is never read
unfoldable pub semantic_tree : Layout → Bytes → formula.Tried
semantic_tree s b = try (prefix_in s b) (eval (matrix_in s b)) (λ _. false)

-- the bound numbers have an entry in a table of so many
abbrev pub InTable : Layout → Bytes → ℕ → Type 0
InTable s b numbers = (i : ℕ) → i < s.variables → (binding_in s b i).variable < numbers

-- a sheet that can be tried: of few variables, each in the assignment
pub record Playable (s : Layout) (b : Bytes) (numbers : ℕ) : Type 0 where
  pub readable : Readable s b
  pub few : s.variables ≤ 20
  pub numbered : InTable s b numbers

-- what every turn finds: such a sheet, with its matrix in the jump tables
pub record TurnsReady (s : Layout) (b : Bytes) (high low : List ℕ) (numbers : ℕ) : Type 0 where
  pub playable : Playable s b numbers
  pub jumps : Jumps (node_rows_in s b) high low
  pub rooms : Rooms s.nodes high low

-- what a turn from row i on leaves: its outcome, and the assignment as it was
pub record Turned (s : Layout) (b : Bytes) (i : ℕ) (table : List Bool) (o : Tried) (table' : List Bool) : Type 0 where
  pub outcome : tried o ≡ turns s b i table
  pub unchanged : table' ≡ table
