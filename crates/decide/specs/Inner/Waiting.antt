-- A sheet that waits, and its halves.
-- Assumes nothing.
use Rattle.std.specs.Prelude.{◌≡◌, Bool, true, false, ℕ, ◌≤◌, ◌<◌, length, take}
use Rattle.formula.specs.Decide.{half}
use Rattle.sheet.specs.Format.{Bytes}
use Rattle.sheet.specs.Limits.{Within}
use Rattle.rows.specs.Layouts.{format_in, size}
use Rattle.rows.specs.Formulas.{formula_in, Readable}
use Rattle.rows.specs.declared.Layout.{Layout}
use Rattle.tidying.specs.Limits.{Raw}

-- a sheet of at most `most` bytes at the front of others, with a row to split on
pub record Waiting (most : ℕ) (t : Layout) (b : Bytes) : Type 0 where
  pub readable : Readable t b
  pub within : Within (format_in t) (formula_in t b)
  pub has_room : size t ≤ most
  pub some_row : 1 ≤ t.variables

-- whether the stack has a place for it; if so it begins with the sheet
abbrev pub SetAside : ℕ → Layout → Bytes → Bytes → Bytes → Bool → Type 0
SetAside place t b stack stack' true = (place ≤ length stack) × (take (size t) stack' ≡ take (size t) b)
SetAside place t b stack stack' false = length stack < place

-- the rows of a half, of layout u
pub record Halved (t : Layout) (b : Bytes) (v : Bool) (u : Layout) (out : Bytes) : Type 0 where
  pub raw : Raw u out
  pub is_half : formula_in u out ≡ half v (formula_in t b)
  pub within : Within (format_in u) (formula_in u out)
  pub shorter : size u ≤ size t
  pub same_format : u.format ≡ t.format
