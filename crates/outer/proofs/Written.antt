-- The rows of the raw sheet, written.
-- Assumes nothing.
use mathlib.Core.Path.{◌≡◌, ap}
use mathlib.Core.List.{List, ◌++◌, map}
use Prim.Native.Nat.{ℕ, ◌-◌}
use lib.ListN.{length, take, drop}
use Rattle.sheet.specs.Format.{Bytes}
use Rattle.sheet.specs.Sheet.{binding_row}
use Rattle.rows.specs.Formulas.{prefix_in}
use Rattle.rows.specs.declared.Layout.{Layout}
use Rattle.raw.specs.Formulas.{without_row}
use Rattle.raw.specs.Expansions.{raw_matrix}
use Rattle.raw.specs.declared.expand.Expansion.{Expansion}
use Rattle.raw.proofs.Plans.{rest_of}
use Rattle.renaming.specs.Prefixes.{rows_from}
use Rattle.outer.specs.Inner.Writing.{written_rows}

-- the second table as it is lent
pub written_by : (s : Layout) (b : Bytes) (tables : List ℕ) (e : Expansion)
    → map binding_row (without_row e.row (prefix_in s b)) ++
    (rows_from (take (length tables - 1025) (drop 1025 tables)) (prefix_in s b) ++ raw_matrix s b tables e) ≡
    written_rows s b tables e
written_by s b tables e =
    ap (λ t. map binding_row (without_row e.row (prefix_in s b)) ++ (rows_from t (prefix_in s b) ++ raw_matrix s b tables e)) (rest_of 1025 tables)
