-- Rows of a strategy's sheet, written as far as the output has room for all of them, and counted in any case.
-- Assumes nothing.
use Rattle.std.specs.Prelude.{◌≡◌, List, ℕ, ◌+◌, ◌≤◌, ◌<◌, ◌^◌, leb, length}
use Rattle.sheet.specs.Format as sheet
use Rattle.sheet.specs.Format.{Bytes, Row, fits}
use Rattle.rows.specs.Layouts.{Fits, total, Room}
use Rattle.rows.specs.declared.Layout.{Layout}
use Rattle.substitution.specs.Output.{Laid}

-- a sheet of v variables and n nodes, of which it has some, fits exactly if its nodes are at most `most`
abbrev pub MostNodes : sheet.Format → ℕ → ℕ → ℕ → Type 0
MostNodes F len v most = (n : ℕ) → 0 < n → fits F len v n ≡ leb n most

-- next is the row behind rows rs from row at on; if the layout has it, they are written
pub record Drafted (t : Layout) (old new : Bytes) (at next : ℕ) (rs : List Row) : Type 0 where
  pub next_row : next ≡ at + length rs
  pub laid : next ≤ total t → Laid t old new at next rs

-- a layout has room, if it has nodes at all
pub record Draftable (t : Layout) (len : ℕ) : Type 0 where
  pub room : 0 < t.nodes → Room t len
  pub few_rows : total t < 2 ^ 32

-- rows of sheets of layout s can be drafted from row at on, which is behind the prefix
pub record DraftReady (s t : Layout) (len at : ℕ) : Type 0 where
  pub same_format : t.format ≡ s.format
  pub draftable : Draftable t len
  pub behind : t.variables < at
  pub few : at < 2 ^ 32

-- the front of a strategy with so many pairs can be drafted with the prefix of a sheet of layout s
pub record FrontReady (s t : Layout) (len pairs : ℕ) : Type 0 where
  pub same_format : t.format ≡ s.format
  pub draftable : Draftable t len
  pub same_variables : t.variables ≡ s.variables
  pub fits : Fits t pairs
