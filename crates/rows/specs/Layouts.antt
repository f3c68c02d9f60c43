-- How the rows of a sheet lie in its bytes ("The sheet"): the sizes first, then the kind bytes, then the arguments.
-- Assumes nothing.
use Rattle.std.specs.Prelude.{◌≡◌, List, ◌++◌, ℕ, ◌+◌, ◌*◌, ◌-◌, ◌^◌, ◌≤◌, ◌<◌, length, take, drop, replicate}
use Rattle.sheet.specs.Format.{Bytes, Format, Row, digits, zip_rows}
use Rattle.sheet.specs.Sheet.{row_kinds, row_arguments}
use Rattle.rows.specs.Formats.{format_of}
use Rattle.rows.specs.declared.Layout.{Layout}

-- the format of its sheet, and bytes to a number
abbrev pub format_in : Layout → Format
format_in s = format_of s.format

abbrev pub width : Layout → ℕ
width s = (format_in s).width

-- a number that a row can hold
abbrev pub Fits : Layout → ℕ → Type 0
Fits s n = n < 256 ^ width s

-- all rows, and the bytes that sizes and rows take
abbrev pub total : Layout → ℕ
total s = s.variables + s.nodes

abbrev pub size : Layout → ℕ
size s = 2 * width s + (1 + width s) * total s

-- the byte of row r's kind, and the first byte of its argument
abbrev pub kind_place : Layout → ℕ → ℕ
kind_place s r = 2 * width s + r

abbrev pub argument_place : Layout → ℕ → ℕ
argument_place s r = 2 * width s + total s + width s * r

unfoldable pub rows_in : Layout → Bytes → List Row
rows_in s b = zip_rows (width s) (take (total s) (drop (2 * width s) b)) (drop (2 * width s + total s) b)

-- the rows have their place in len bytes
pub record Room (s : Layout) (len : ℕ) : Type 0 where
  pub holds : size s ≤ len

-- the bytes before the rows and those behind them stay
pub record Kept (s : Layout) (old new : Bytes) : Type 0 where
  pub sizes_kept : take (2 * width s) new ≡ take (2 * width s) old
  pub behind_kept : drop (size s) new ≡ drop (size s) old

-- the first m rows as a sheet of the same variables, with zeros behind it
unfoldable pub sealed : Layout → ℕ → Bytes → Bytes
sealed s m b =
    digits (width s) s.variables ++ digits (width s) (m - s.variables) ++ row_kinds (take m (rows_in s b)) ++
    row_arguments (width s) (take m (rows_in s b)) ++ replicate (length b - (2 * width s + m + width s * m)) 0
