-- Rows by the width of a number and how many they are: what the laws of a layout rest on.
-- Assumes nothing.
use mathlib.Core.List.{List}
use Prim.Native.Nat.{ℕ, ◌+◌, ◌*◌, ◌≤◌}
use lib.ListN.{take, drop}
use Rattle.sheet.specs.Format.{Bytes, Row, zip_rows}

-- n rows of width w: two sizes stand first, then n kind bytes, then n arguments
unfoldable pub rows_in : ℕ → ℕ → Bytes → List Row
rows_in w n b = zip_rows w (take n (drop (2 * w) b)) (drop (2 * w + n) b)

-- n rows of width w have their place in len bytes
pub record Room (w n len : ℕ) : Type 0 where
  pub holds : 2 * w + (1 + w) * n ≤ len
