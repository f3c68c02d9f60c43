-- The limits of the two formats: what lengths, numbers and tables of code rest on.
-- Assumes nothing.
use Prim.Native.Nat.{ℕ, ◌+◌, ◌^◌, ◌≤◌, ◌<◌}
use native.Mathlib.Omega.{arith}
use Rattle.sheet.specs.Format as sheet
use Rattle.sheet.specs.Limits.{Sound}
use Rattle.rows.specs.Formats.{format_of}
use Rattle.rows.specs.declared.Format.{Format}
use Rattle.rows.specs.declared.Format.TheVariants.{Narrow, Wide}

-- A number has two bytes at least and fits 32 bits; tables have 1,025 numbers and 8,192 rows; and how many rows a sheet has is a number
-- of its format, since while a sheet is tidied an operator's argument counts the rows of its subtree.
pub record Limits (F : sheet.Format) : Type 0 where
  pub some_bytes : 2 ≤ F.width
  pub few_bytes : F.width ≤ 4
  pub few_variables : F.most_variables ≤ 1024
  pub few_nodes : F.most_nodes ≤ 8192
  pub few_rows : F.most_variables + F.most_nodes < 256 ^ F.width

pub limits : (f : Format) → Limits (format_of f)
limits Narrow =
    record { some_bytes = omega arith; few_bytes = omega arith; few_variables = omega arith; few_nodes = omega arith; few_rows = omega arith }
limits Wide =
    record { some_bytes = omega arith; few_bytes = omega arith; few_variables = omega arith; few_nodes = omega arith; few_rows = omega arith }

-- numbers of 16 bits fit either format's
pub number_fits : (f : Format) {n : ℕ} → n < 256 ^ 2 → n < 256 ^ (format_of f).width
number_fits Narrow h = h
number_fits Wide h = omega arith

-- its numbers hold its sizes
pub sound : (f : Format) → Sound (format_of f)
sound f = let k = limits f in record { variables_fit = omega (arith, k.few_rows); nodes_fit = omega (arith, k.few_rows) }
