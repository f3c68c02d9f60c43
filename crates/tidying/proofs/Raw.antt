-- Rows of a formula before they are tidied: a sheet's, and those that a caller has written.
-- Assumes nothing.
use mathlib.Core.Path.{◌≡◌, sym, ap, ◌∙◌}
use mathlib.Core.List.{◌++◌}
use Prim.Native.Nat.{ℕ, ◌+◌, ◌≤◌}
use native.Mathlib.Omega.{arith}
use lib.ListN.{length, drop, length-append, length-drop}
use Rattle.formula.specs.Tree.{Formula}
use Rattle.formula.specs.Tidy.{tidied}
use Rattle.sheet.specs.Format.{Bytes, sheet_length}
use Rattle.sheet.specs.Sheet.{formula, formula_rows, sheet}
use Rattle.sheet.specs.Operations.{padded}
use Rattle.sheet.proofs.RoundTrip.{length-sheet}
use Rattle.rows.specs.Tables.{ROWS, HIGHEST}
use Rattle.rows.specs.Formats.{format_of}
use Rattle.rows.specs.Layouts.{format_in, total, rows_in, Room}
use Rattle.rows.specs.Formulas.{formula_in, layout_for}
use Rattle.rows.specs.declared.Format.{Format}
use Rattle.rows.specs.declared.Layout.{Layout}
use Rattle.rows.proofs.Limits.{limits}
use Rattle.rows.proofs.Layouts.{rows_in-++}
use Rattle.rows.proofs.Formulas.{prefix_length, formula_written, written_is_formula}
use Rattle.checking.specs.Sheets.{Sheet}
use Rattle.checking.proofs.CheckedSheets.{sheet_right, sheet_readable, sheet-formula_in}
use Rattle.tidying.specs.Limits.{Raw}

-- the rows of either format have room in tables
pub few_rows : (s : Layout) → s.variables ≤ (format_in s).most_variables → s.nodes ≤ (format_in s).most_nodes → total s ≤ ROWS + HIGHEST
few_rows s v n = omega (arith, (limits s.format).few_variables, (limits s.format).few_nodes)

-- how long a sheet is, by its layout
pub layout_length : (f : Format) (g : Formula) {t : Layout} → t ≡ layout_for f g
    → sheet_length (format_in t) t.variables t.nodes ≡ length (sheet (format_of f) g)
layout_length f g e = ap (λ (t : Layout). sheet_length (format_in t) t.variables t.nodes) e ∙ sym (length-sheet (format_of f) g)

-- These rows are those of a formula g, so what is left of them is the sheet of g tidied.
module _ (s : Layout) (b : Bytes) (g : Formula) (is : rows_in s b ≡ formula_rows g) (vs : length g.prefix ≡ s.variables) where
  pub raw_rows : Room s (length b) → total s ≤ ROWS + HIGHEST → Raw s b
  raw_rows room few = record { room = room; few_rows = few; is_formula = written_is_formula s b g is vs }

  pub raw_output : {new : Bytes} (len : ℕ) → new ≡ padded len (sheet (format_in s) (tidied (formula_in s b)))
      → new ≡ padded len (sheet (format_in s) (tidied g))
  raw_output len e = e ∙ ap (λ h. padded len (sheet (format_in s) (tidied h))) (formula_written s b g is vs)

  pub raw-sizes : {t : Layout} → t ≡ layout_for s.format (tidied (formula_in s b)) → t ≡ layout_for s.format (tidied g)
  raw-sizes e = e ∙ ap (λ h. layout_for s.format (tidied h)) (formula_written s b g is vs)

-- The rows of a sheet that Check accepts, copied to the front of an output.
module _ {b : Bytes} {s : Layout} (sh : Sheet s.format b s) (out : Bytes) (l : length b ≤ length out)
    {copied : Bytes} (is : copied ≡ b ++ drop (length b) out) where
  pub length-copied : length copied ≡ length out
  length-copied = ap length is ∙ length-append b (drop (length b) out) ∙ omega (arith, length-drop (length b) out)

  rows-copied : rows_in s copied ≡ formula_rows (formula (format_in s) b)
  rows-copied =
      ap (rows_in s) is ∙ rows_in-++ b (sheet_readable sh).room (drop (length b) out) ∙ sym (sheet_readable sh).is_formula ∙
      ap formula_rows (sheet-formula_in sh)

  prefix_count : length (formula (format_in s) b).prefix ≡ s.variables
  unfolding formula_in
  prefix_count = ap (λ (g : Formula). length g.prefix) (sym (sheet-formula_in sh)) ∙ prefix_length b (sheet_readable sh).room

  pub copied_formula : formula_in s copied ≡ formula (format_in s) b
  copied_formula = formula_written s copied (formula (format_in s) b) rows-copied prefix_count

  pub copied-raw : Raw s copied
  copied-raw =
      raw_rows s copied (formula (format_in s) b) rows-copied prefix_count
      (record { holds = omega (arith, (sheet_readable sh).room.holds, length-copied) })
      (few_rows s (sheet_right sh).few_variables (sheet_right sh).few_nodes)

  pub copied_output : {new : Bytes} → new ≡ padded (length copied) (sheet (format_in s) (tidied (formula_in s copied)))
      → new ≡ padded (length out) (sheet (format_in s) (tidied (formula (format_in s) b)))
  copied_output e =
      raw_output s copied (formula (format_in s) b) rows-copied prefix_count (length copied) e ∙
      ap (λ len. padded len (sheet (format_in s) (tidied (formula (format_in s) b)))) length-copied

  pub copied-sizes : {t : Layout} → t ≡ layout_for s.format (tidied (formula_in s copied))
      → t ≡ layout_for s.format (tidied (formula (format_in s) b))
  copied-sizes e = raw-sizes s copied (formula (format_in s) b) rows-copied prefix_count e
