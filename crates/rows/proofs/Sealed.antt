-- Rows that are those of a formula, made a sheet: it is that formula's.
-- Assumes nothing.
use mathlib.Core.Path.{◌≡◌, sym, ap, ap₂, ◌∙◌}
use mathlib.Core.List.{List, ◌++◌}
use Prim.Native.Nat.{ℕ, ◌+◌, ◌*◌, ◌-◌}
use native.Mathlib.Omega.{arith}
use lib.ListN.{length, take, replicate}
use lib.Seq.{take_all}
use Rattle.formula.specs.Tree.{Formula, rows}
use Rattle.sheet.specs.Format.{Bytes, Format, Row, header, digits}
use Rattle.sheet.specs.Sheet.{formula_rows, row_kinds, row_arguments, sheet}
use Rattle.sheet.specs.Operations.{padded}
use Rattle.sheet.proofs.Parts.{sheet_length-rows}
use Rattle.sheet.proofs.RoundTrip.{length-sheet}
use Rattle.rows.specs.Layouts.{format_in, width, total, rows_in, Room, sealed}
use Rattle.rows.specs.declared.Layout.{Layout}
use Rattle.rows.proofs.Layouts.{length-rows_in}

-- a sheet's bytes and zeros behind them
abbrev laid_out : ℕ → ℕ → ℕ → List Row → ℕ → Bytes
laid_out w v n rs zeros = digits w v ++ digits w n ++ row_kinds rs ++ row_arguments w rs ++ replicate zeros 0

-- the first m rows of a layout
module _ (s : Layout) (b : Bytes) (g : Formula) {m : ℕ} (is : take m (rows_in s b) ≡ formula_rows g)
    (vs : length g.prefix ≡ s.variables) (ms : m ≡ s.variables + rows g.matrix) where
  abbrev F : Format
  F = format_in s

  pub front_length : 2 * width s + m + width s * m ≡ length (sheet F g)
  front_length =
      sym
      (length-sheet F g ∙ sheet_length-rows F (length g.prefix) (rows g.matrix) ∙
      ap (λ k. header F + (k + F.width * k)) (ap (λ k. k + rows g.matrix) vs ∙ sym ms) ∙ regroup F.width)
    where
      regroup : (w : ℕ) → 2 * w + (m + w * m) ≡ 2 * w + m + w * m
      regroup w = omega arith

  pub front-sealed : sealed s m b ≡ padded (length b) (sheet F g)
  unfolding sealed padded sheet
  front-sealed =
      ap₂ (λ rs k. laid_out (width s) s.variables (m - s.variables) rs (length b - k)) is front_length ∙
      ap₂ (λ v n. laid_out (width s) v n (formula_rows g) (length b - length (sheet F g))) (sym vs) left
    where
      left : m - s.variables ≡ rows g.matrix
      left = omega (arith, ms)

-- all of them
module _ (s : Layout) (b : Bytes) (g : Formula) (room : Room s (length b)) (is : rows_in s b ≡ formula_rows g)
    (vs : length g.prefix ≡ s.variables) (ns : rows g.matrix ≡ s.nodes) where
  every_row : take (total s) (rows_in s b) ≡ formula_rows g
  every_row = take_all (total s) (rows_in s b) (omega (arith, length-rows_in b room)) ∙ is

  counted : total s ≡ s.variables + rows g.matrix
  counted = omega (arith, ns)

  pub sealed-length : 2 * width s + total s + width s * total s ≡ length (sheet (format_in s) g)
  sealed-length = front_length s b g every_row vs counted

  pub sealed-sheet : sealed s (total s) b ≡ padded (length b) (sheet (format_in s) g)
  sealed-sheet = front-sealed s b g every_row vs counted
