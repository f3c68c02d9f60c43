-- Rows that are written in numbers of another width.
-- Assumes nothing.
use Rattle.std.specs.Prelude.{◌≡◌, [], ◌∷◌, ℕ, ◌^◌, ◌≤◌, ◌<◌, length, get_or}
use Rattle.sheet.specs.Format as sheet
use Rattle.sheet.specs.Format.{Bytes, row, sheet_length}
use Rattle.sheet.specs.Sheet.{formula}
use Rattle.sheet.specs.Operations.{Written, write}
use Rattle.sheet.specs.Conversion.{carried, converted_room_test}
use Rattle.sheet.specs.Limits.{Within}
use Rattle.rows.specs.Formats.{format_of}
use Rattle.rows.specs.Layouts.{format_in, Fits, total, rows_in, Room}
use Rattle.rows.specs.Formulas.{formula_in, Readable}
use Rattle.rows.specs.declared.Format.{Format}
use Rattle.rows.specs.declared.Layout.{Layout}
use Rattle.checking.specs.Sheets.{Sheet}

-- the rows of s can be read from b, as many rows of t have their place in len bytes, and every argument fits a number there
pub record RowsFit (s : Layout) (b : Bytes) (t : Layout) (len : ℕ) : Type 0 where
  pub source : Room s (length b)
  pub few_rows : total s < 2 ^ 32
  pub room : Room t len
  pub as_many : total t ≡ total s
  pub arguments_fit : (r : ℕ) → r < total s → Fits t (get_or (rows_in s b) r (row 0 0)).argument

-- the formula whose rows are in b is within the limits of the format g, and its sheet has its place in len bytes
pub record Convertible (s : Layout) (b : Bytes) (g : Format) (len : ℕ) : Type 0 where
  pub readable : Readable s b
  pub within : Within (format_of g) (formula_in s b)
  pub has_room : sheet_length (format_of g) s.variables s.nodes ≤ len

-- a sheet that Check accepts, of layout s, and within the limits of the format g
pub record ConvertReady (s : Layout) (b : Bytes) (g : Format) : Type 0 where
  pub accepted : Sheet s.format b s
  pub within : Within (format_of g) (formula (format_in s) b)

-- a conversion once every test but 13 has passed
abbrev pub room_call : sheet.Format → sheet.Format → Bytes → Bytes → Written
room_call F G b out = write (converted_room_test F G b (length out) ∷ []) (carried F G b) out
