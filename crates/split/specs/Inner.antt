-- A sheet with no more values than variables, and room for what is left of it.
-- Assumes nothing.
use Rattle.std.specs.Prelude.{ℕ, ◌≤◌, length}
use Rattle.sheet.specs.Format.{Bytes}
use Rattle.rows.specs.Layouts.{size}
use Rattle.rows.specs.declared.Layout.{Layout}
use Rattle.checking.specs.Sheets.{Sheet}
use Rattle.force.specs.Inner.Moves.{layout_behind}

pub record Splittable (s : Layout) (b vs : Bytes) (len : ℕ) : Type 0 where
  pub checked : Sheet s.format b s
  pub few : length vs ≤ s.variables
  pub has_room : size (layout_behind s (length vs)) ≤ len
