-- A sheet that Check accepts: its formula is within the limits, has its sizes, and is written back as the same bytes.
-- Assumes nothing.
use mathlib.Core.Path.{◌≡◌, sym, ap, ap₂, ◌∙◌}
use mathlib.Core.Bool.{true}
use mathlib.Core.List.{◌++◌}
use Prim.Native.Nat.{◌+◌}
use native.Mathlib.Omega.{arith}
use lib.ListN.{length, take, drop, length-map, length-drop, take-append-drop}
use lib.Seq.{length-take-le}
use Rattle.formula.specs.Tree.{rows, closed}
use Rattle.sheet.specs.Format.{Bytes, Format, header, sheet_length, variables, nodes, kind_bytes, argument_bytes, all_rows, prefix_rows, node_rows, IsByte, AllBytes}
use Rattle.sheet.specs.Sheet.{binding, formula, tree_rows, formula_rows, sheet}
use Rattle.sheet.specs.Check.{passes, node_tests, arguments, check_tests}
use Rattle.sheet.proofs.Every.{every_take, every_drop}
use Rattle.sheet.proofs.Numbers.{digits-number_at}
use Rattle.sheet.specs.Limits.{Within}
use Rattle.sheet.proofs.Preorder.{length-tree_rows, rows-root-trees}
use Rattle.sheet.proofs.Parts.{row_kinds_zip, length-zip_rows, row_arguments_zip, parts, variables-wide, nodes-wide, length-kind_bytes, length-argument_bytes}
use Rattle.sheet.proofs.CheckTests.{passed, SizesFit, passed_sizes, Quantifiers, passed_quantifiers, passes-node_tests, passed_nodes}

module _ (F : Format) (b : Bytes) (h : passes (check_tests F b) ≡ true) where
  sizes_fit : SizesFit F b
  sizes_fit = passed_sizes F b (passed F b h).sizes

  quantifiers : Quantifiers F (prefix_rows F b)
  quantifiers = passed_quantifiers F (prefix_rows F b) (passed F b h).quantifiers

  pub accepted_length : length b ≡ sheet_length F (variables F b) (nodes F b)
  accepted_length = sizes_fit.right_length

  pub length-all_rows : length (all_rows F b) ≡ variables F b + nodes F b
  unfolding all_rows
  length-all_rows = length-zip_rows F.width (kind_bytes F b) (argument_bytes F b) ∙ length-kind_bytes F b accepted_length

  pub length-prefix_rows : length (prefix_rows F b) ≡ variables F b
  unfolding prefix_rows
  length-prefix_rows = length-take-le (variables F b) (all_rows F b) (omega (arith, length-all_rows))

  pub length-node_rows : length (node_rows F b) ≡ nodes F b
  unfolding node_rows
  length-node_rows = omega (arith, length-all_rows, length-drop (variables F b) (all_rows F b))

  pub rows_matrix : tree_rows (formula F b).matrix ≡ node_rows F b
  unfolding formula
  rows_matrix =
      rows-root-trees (node_rows F b) (variables F b) (passed_nodes _ _ (node_rows F b) (passed F b h).node_kinds) (passed F b h).one_tree

  pub formula_rows-formula : formula_rows (formula F b) ≡ all_rows F b
  unfolding formula_rows formula prefix_rows node_rows
  formula_rows-formula = ap₂ ◌++◌ quantifiers.rows_of_prefix rows_matrix ∙ take-append-drop (variables F b) (all_rows F b)

  pub accepted_variables : length (formula F b).prefix ≡ variables F b
  unfolding formula
  accepted_variables = length-map (prefix_rows F b) binding ∙ length-prefix_rows

  pub accepted_nodes : rows (formula F b).matrix ≡ nodes F b
  accepted_nodes = sym (length-tree_rows (formula F b).matrix) ∙ ap length rows_matrix ∙ length-node_rows

  pub accepted_closed : closed (formula F b) ≡ true
  unfolding formula
  accepted_closed =
      sym (passes-node_tests (prefix_rows F b) (formula F b).matrix (variables F b)) ∙
      ap (λ rs. passes (node_tests (variables F b) (arguments (prefix_rows F b)) rs)) rows_matrix ∙
      (passed F b h).node_kinds

  pub accepted_within : Within F (formula F b)
  unfolding formula
  accepted_within =
      record {
        few_variables = rw accepted_variables sizes_fit.few_variables;
        few_nodes = rw accepted_nodes sizes_fit.few_nodes;
        is_numbered = quantifiers.is_numbered;
        is_distinct = quantifiers.is_distinct;
        is_closed = accepted_closed;
      }

pub sheet-formula : (F : Format) (b : Bytes) → AllBytes b → passes (check_tests F b) ≡ true → sheet F (formula F b) ≡ b
unfolding sheet variables nodes all_rows argument_bytes
sheet-formula F b bytes h =
    let w = F.width in
    let right = accepted_length F b h in
    let ds = argument_bytes F b in
    let ds-bytes : AllBytes ds = every_drop IsByte (header F + (variables F b + nodes F b)) b bytes in
    rw (
      accepted_variables F b h,
      accepted_nodes F b h,
      formula_rows-formula F b h,
      digits-number_at w (take w b) (variables-wide F b right) (every_take IsByte w b bytes),
      digits-number_at w (take w (drop w b)) (nodes-wide F b right) (every_take IsByte w (drop w b) (every_drop IsByte w b bytes)),
      row_kinds_zip w (kind_bytes F b) ds,
      row_arguments_zip w (kind_bytes F b) ds (length-argument_bytes F b right) ds-bytes,
    )
    (parts F b)
