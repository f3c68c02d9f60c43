-- The sheet in the first buffer, as the functions of a step read it.
-- Assumes nothing.
use mathlib.Core.Path.{◌≡◌, sym, ap, ap₂, ◌∙◌, subst}
use mathlib.Core.Bool.{true}
use mathlib.Core.List.{List, map}
use Prim.Native.Nat.{ℕ, ◌-◌, ◌≤◌}
use native.Mathlib.Omega.{arith}
use lib.ListN.{length, take, drop, replicate, length-append, length-replicate}
use Rattle.formula.specs.Tree.{Formula, rows}
use Rattle.formula.specs.Tidy.{is_tidy}
use Rattle.formula.proofs.Steps.{Proper}
use Rattle.sheet.specs.Format as sheet
use Rattle.sheet.specs.Format.{Bytes, Row, row}
use Rattle.sheet.specs.Sheet.{binding, trees, root, formula_rows, sheet}
use Rattle.sheet.specs.Operations.{padded}
use Rattle.sheet.specs.Limits.{Within}
use Rattle.sheet.proofs.Limits.{numbered_at}
use Rattle.sheet.proofs.RoundTrip.{variables-sheet, nodes-sheet, formula-sheet, passes-sheet}
use Rattle.rows.specs.Formats.{format_of}
use Rattle.rows.specs.Layouts.{format_in, rows_in}
use Rattle.rows.specs.Formulas.{node_rows_in, prefix_in, matrix_in, formula_in, Readable, layout_of, layout_for}
use Rattle.rows.specs.declared.Format.{Format}
use Rattle.rows.specs.declared.Layout.{Layout}
use Rattle.rows.proofs.Layouts.{rows_in-++}
use Rattle.rows.proofs.Formulas.{formula_read, accepted_readable}
use Rattle.rows.proofs.Limits.{limits, sound}
use Rattle.prefixes.specs.Places.{binding_at}
use Rattle.polarity.specs.Value.{NumberedTo, Bound}
use Rattle.elimination.specs.Steps.{Steppable}
use Rattle.solve.specs.Inner.Running.{Held}

-- the formula of rows
abbrev formula-of : Layout → List Row → Formula
formula-of s R = record { prefix = map binding (take s.variables R); matrix = root (trees (drop s.variables R)) }

-- bytes with the same rows are read alike
same_formula : (s : Layout) (b c : Bytes) → rows_in s b ≡ rows_in s c → formula_in s b ≡ formula_in s c
unfolding formula_in prefix_in matrix_in node_rows_in
same_formula s b c e = ap (formula-of s) e

same_readable : {s : Layout} {b c : Bytes} → rows_in s b ≡ rows_in s c → length b ≤ length c → Readable s b → Readable s c
same_readable {s} {b} {c} e l ok =
    record {
      room = record { holds = omega (arith, ok.room.holds) };
      few_variables = ok.few_variables;
      some_nodes = ok.some_nodes;
      few_nodes = ok.few_nodes;
      is_formula = ap formula_rows (sym (same_formula s b c e)) ∙ ok.is_formula ∙ e;
    }

length-padded : (n : ℕ) (b : Bytes) → length b ≤ n → length (padded n b) ≡ n
unfolding padded
length-padded n b l = length-append b (replicate (n - length b) 0) ∙ omega (arith, length-replicate {A = ℕ} (n - length b) 0)

-- a formula's sheet with zeros behind it
module _ (f : Format) (g : Formula) (h : Within (format_of f) g) (len : ℕ) where
  abbrev F : sheet.Format
  F = format_of f

  own_layout : layout_of f (sheet F g) ≡ layout_for f g
  own_layout =
      ap₂ (λ (v n : ℕ). record { format = f; variables = v; nodes = n }) (variables-sheet F (sound f) g h) (nodes-sheet F (sound f) g h)

  sheet_readable : Readable (layout_for f g) (sheet F g)
  sheet_readable =
      subst (λ (s : Layout). Readable s (sheet F g)) own_layout (accepted_readable f (sheet F g) (passes-sheet F (sound f) g h))

  same_rows : rows_in (layout_for f g) (sheet F g) ≡ rows_in (layout_for f g) (padded len (sheet F g))
  unfolding padded
  same_rows = sym (rows_in-++ (sheet F g) sheet_readable.room (replicate (len - length (sheet F g)) 0))

  longer : length (sheet F g) ≤ length (padded len (sheet F g))
  unfolding padded
  longer = omega (arith, length-append (sheet F g) (replicate (len - length (sheet F g)) 0))

  pub padded_readable : Readable (layout_for f g) (padded len (sheet F g))
  padded_readable = same_readable same_rows longer sheet_readable

  pub padded-formula : formula_in (layout_for f g) (padded len (sheet F g)) ≡ g
  padded-formula =
      sym (same_formula (layout_for f g) (sheet F g) (padded len (sheet F g)) same_rows) ∙
      ap (λ (s : Layout). formula_in s (sheet F g)) (sym own_layout) ∙ formula_read f (sheet F g) ∙ formula-sheet F (sound f) g h

  -- the buffer that a step leaves
  pub hold : {most : ℕ} {s : Layout} {b : Bytes} → is_tidy g.matrix ≡ true → length (sheet F g) ≤ most → most ≤ len → s ≡ layout_for f g
      → b ≡ padded len (sheet F g) → (formula_in s b ≡ g) × Held most s b
  hold {most} {s} {b} neat fits l at e =
      let back : formula_in s b ≡ g = ap₂ formula_in at e ∙ padded-formula in
      let same : s.format ≡ f = ap (λ (t : Layout). t.format) at in (
        back,
        record {
          layout_is = at ∙ ap₂ layout_for (sym same) (sym back);
          bytes_are =
              rw (back, same) (e ∙ ap (λ (m : ℕ). padded m (sheet F g)) (sym (ap length e ∙ length-padded len (sheet F g) (omega arith))));
          has_room = rw (back, same) fits;
          within = rw (back, same) h;
          is_neat = rw back neat;
        },
      )

-- a buffer that holds a sheet
module _ {most : ℕ} {s : Layout} {b : Bytes} (h : Held most s b) where
  pub readable : Readable s b
  readable =
      subst (λ (t : Layout). Readable t b) (sym h.layout_is)
      (subst (Readable (layout_for s.format (formula_in s b))) (sym h.bytes_are)
      (padded_readable s.format (formula_in s b) h.within (length b)))

  pub proper : Proper (formula_in s b)
  proper = record { is_distinct = h.within.is_distinct; is_closed = h.within.is_closed; is_neat = h.is_neat }

  pub variables_are : s.variables ≡ length (formula_in s b).prefix
  variables_are = ap (λ (t : Layout). t.variables) h.layout_is

  pub nodes_are : s.nodes ≡ rows (formula_in s b).matrix
  nodes_are = ap (λ (t : Layout). t.nodes) h.layout_is

  pub steppable : Steppable s b
  steppable =
      record {
        readable = readable;
        few_variables = omega (arith, variables_are, h.within.few_variables);
        few_nodes = omega (arith, nodes_are, h.within.few_nodes);
      }

  pub numbered_to : NumberedTo (format_in s).most_variables s b
  unfolding formula_in binding_at
  numbered_to =
      record {
        few_numbers =
            λ i l. numbered_at (format_in s) (formula_in s b).prefix i (binding (row 0 0)) h.within.is_numbered (omega (arith, variables_are, l));
      }

  pub bound : Bound s b
  unfolding formula_in
  bound =
      record {
        is_distinct = h.within.is_distinct;
        numbered = record { few_numbers = λ i l. omega (arith, (limits s.format).few_variables, numbered_to.few_numbers i l) };
      }
