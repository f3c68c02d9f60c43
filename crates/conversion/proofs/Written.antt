-- A formula's rows in numbers of another width, made a sheet of that format.
-- Assumes nothing.
use mathlib.Core.Path.{◌≡◌, sym, ap, ap₂, ◌∙◌, subst}
use Prim.Native.Nat.{ℕ}
use native.Mathlib.Omega.{arith}
use lib.ListN.{length}
use Rattle.formula.specs.Tree.{Formula, rows}
use Rattle.sheet.specs.Format as sheet
use Rattle.sheet.specs.Format.{Bytes, row, sheet_length, Every}
use Rattle.sheet.specs.Sheet.{sheet}
use Rattle.sheet.specs.Operations.{padded}
use Rattle.sheet.proofs.Parts.{ArgumentFits}
use Rattle.sheet.proofs.RoundTrip.{arguments_fit}
use Rattle.rows.specs.Formats.{format_of}
use Rattle.rows.specs.Layouts.{total, rows_in, Room, sealed}
use Rattle.rows.specs.Formulas.{formula_in, layout_for}
use Rattle.rows.specs.declared.Format.{Format}
use Rattle.rows.specs.declared.Layout.{Layout}
use Rattle.rows.proofs.Layouts.{length-rows_in}
use Rattle.rows.proofs.Formulas.{length_prefix, rows-nodes}
use Rattle.rows.proofs.Limits.{sound}
use Rattle.conversion.specs.Inner.Rows.{RowsFit, Convertible}
use Rattle.rows.proofs.Sealed.{sealed-sheet}
use Rattle.sheet.proofs.Every.{every_at}

-- the layout that has as many rows in the other format
abbrev layout_in : Format → Layout → Layout
layout_in g s = record { format = g; variables = s.variables; nodes = s.nodes }

module _ {s : Layout} {b : Bytes} {g : Format} {len : ℕ} (c : Convertible s b g len) where
  abbrev G : sheet.Format
  G = format_of g

  abbrev f : Formula
  f = formula_in s b

  abbrev t : Layout
  t = layout_in g s

  variables_are : length f.prefix ≡ s.variables
  unfolding formula_in
  variables_are = length_prefix b c.readable

  nodes_are : rows f.matrix ≡ s.nodes
  unfolding formula_in
  nodes_are = rows-nodes b c.readable

  pub layout_is : t ≡ layout_for g f
  layout_is = ap₂ (λ (v n : ℕ). record { format = g; variables = v; nodes = n }) (sym variables_are) (sym nodes_are)

  pub room : Room t len
  unfolding sheet_length
  room = record { holds = c.has_room }

  pub rows_fit : RowsFit s b t len
  rows_fit =
      record {
        source = c.readable.room;
        few_rows = omega (arith, c.readable.few_variables, c.readable.few_nodes);
        room = room;
        as_many = omega arith;
        arguments_fit =
            λ r l. every_at (ArgumentFits G.width) (rows_in s b) r (row 0 0)
            (subst (Every (ArgumentFits G.width)) c.readable.is_formula (arguments_fit G (sound g) f c.within))
            (omega (arith, length-rows_in b c.readable.room));
      }

  pub sheet_is : (d out : Bytes) → length d ≡ len → rows_in t out ≡ rows_in s b → length out ≡ len
      → sealed t (total s) out ≡ padded (length d) (sheet G f)
  sheet_is d out given written same =
      sealed-sheet t out f (record { holds = omega (arith, room.holds, same) }) (written ∙ sym c.readable.is_formula) variables_are nodes_are ∙
      ap (λ (k : ℕ). padded k (sheet G f)) (same ∙ sym given)
