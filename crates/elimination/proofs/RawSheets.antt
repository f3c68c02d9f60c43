-- A raw sheet written to an output: these rows are those of a raw formula, so tidied they are the sheet of that formula tidied.
-- Assumes nothing.
use mathlib.Core.Path.{◌≡◌, sym, ap, ap₂, ◌∙◌}
use mathlib.Core.Bool.{Bool, true}
use mathlib.Core.List.{List, ◌++◌}
use Prim.Native.Nat.{ℕ, suc, ◌+◌, ◌-◌, ◌≤◌, ◌<◌}
use native.Mathlib.Omega.{arith}
use lib.ListN.{length, take, drop}
use borrow.Author.Tests.{lt-ltb}
use Rattle.formula.specs.Tree.{Prefix, Tree, Formula, binds, without, replace, assign}
use Rattle.formula.specs.Tidy.{tidied}
use Rattle.formula.proofs.Closed.{length_without}
use Rattle.sheet.specs.Format.{Bytes, Format, sheet_length}
use Rattle.sheet.specs.Sheet.{sheet}
use Rattle.sheet.specs.Operations.{padded}
use Rattle.rows.specs.Layouts.{format_in, total, Room}
use Rattle.rows.specs.Formulas.{prefix_in, matrix_in, formula_in, layout_for}
use Rattle.rows.specs.Tables.{ROWS, HIGHEST}
use Rattle.rows.specs.declared.Layout.{Layout}
use Rattle.rows.proofs.Formulas.{length_prefix}
use Rattle.prefixes.specs.Places.{place}
use Rattle.prefixes.proofs.Places.{binds-place, without-place}
use Rattle.substitution.specs.Changes.{changed, putting_in}
use Rattle.substitution.proofs.Tables.{changed-putting_in}
use Rattle.raw.specs.Formulas.{without_row, settled_raw, raw_layout, Raw}
use Rattle.tidying.specs.Limits as tidying
use Rattle.tidying.proofs.Raw.{few_rows, raw_rows, raw_output, raw-sizes}
use Rattle.elimination.specs.Steps.{Steppable, Named}

module _ {s : Layout} {b : Bytes} (st : Steppable s b) where
  abbrev F : Format
  F = format_in s

  -- room for the raw rows is what the fit of the raw sheet says
  pub raw-room : (n : ℕ) {len : ℕ} → sheet_length F (s.variables - 1) n ≤ len → Room (raw_layout s n) len
  unfolding sheet_length
  raw-room n {len} h = record { holds = h }

  raw_few : (n : ℕ) → n ≤ F.most_nodes → total (raw_layout s n) ≤ ROWS + HIGHEST
  raw_few n h = few_rows (raw_layout s n) (omega (arith, st.few_variables)) h

  module _ {x i : ℕ} (nm : Named s b x i) where
    bound : binds (prefix_in s b) x ≡ true
    bound =
        binds-place x (prefix_in s b) ∙
        lt-ltb (place x (prefix_in s b)) (length (prefix_in s b)) (omega (arith, nm.inside, nm.row_is, length_prefix b st.readable))

    -- the row that goes is that of x
    pub prefix_without : without_row i (prefix_in s b) ≡ without x (prefix_in s b)
    unfolding without_row
    prefix_without =
        ap (λ (j : ℕ). take j (prefix_in s b) ++ drop (suc j) (prefix_in s b)) nm.row_is ∙ sym (without-place x (prefix_in s b))

    -- a raw formula g of n rows without x, whose rows stand in an output
    module _ (g : Formula) (e : g.prefix ≡ without x (prefix_in s b)) {n : ℕ} (few : n ≤ F.most_nodes) {old new : Bytes}
        (same : length new ≡ length old) (room : sheet_length F (s.variables - 1) n ≤ length old) (w : Raw (raw_layout s n) old new g) where
      one_less : length g.prefix ≡ s.variables - 1
      one_less =
          omega (arith, ap length e, length_without x (prefix_in s b) bound, length_prefix b st.readable)

      pub written-raw : tidying.Raw (raw_layout s n) new
      written-raw = raw_rows (raw_layout s n) new g w.all_rows one_less (rw same (raw-room n room)) (raw_few n few)

      pub written-sheet : {out : Bytes} → out ≡ padded (length new) (sheet F (tidied (formula_in (raw_layout s n) new)))
          → out ≡ padded (length old) (sheet F (tidied g))
      written-sheet h =
          raw_output (raw_layout s n) new g w.all_rows one_less (length new) h ∙ ap (λ (len : ℕ). padded len (sheet F (tidied g))) same

      pub written-layout : {t : Layout} → t ≡ layout_for s.format (tidied (formula_in (raw_layout s n) new)) → t ≡ layout_for s.format (tidied g)
      written-layout h = raw-sizes (raw_layout s n) new g w.all_rows one_less h

    -- the raw formula of settling
    pub put-formula : (c : Bool) {n : ℕ} → x < n → {table : List ℕ} → table ≡ putting_in n x c
        → settled_raw i table (formula_in s b) ≡ record { prefix = without x (prefix_in s b); matrix = assign x c (matrix_in s b) }
    unfolding settled_raw formula_in assign
    put-formula c {n} h is =
        ap₂ (λ (p : Prefix) (t : Tree). record { prefix = p; matrix = t }) prefix_without
        (ap (λ (t : List ℕ). replace (changed t) (matrix_in s b)) is ∙
        ap (λ (h : Bool → ℕ → Tree). replace h (matrix_in s b)) (changed-putting_in n x h nm.few c))
