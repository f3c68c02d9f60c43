-- Formulas read where they lie: a sheet's own, and one whose rows have been written.
-- Assumes nothing.
use mathlib.Core.Path.{◌≡◌, sym, ap, ap₂, ◌∙◌}
use mathlib.Core.Bool.{true}
use mathlib.Core.List.{map}
use Prim.Native.Nat.{ℕ, ◌+◌}
use native.Mathlib.Omega.{arith}
use lib.ListN.{length, get_or, take, drop, length-drop, length-map}
use lib.Seq.{get_or-drop, take_at, drop_at, length-take-le}
use Rattle.formula.specs.Tree.{Tree, Prefix, Formula, rows}
use Rattle.sheet.specs.Format.{Bytes, row, sheet_length, prefix_rows, node_rows}
use Rattle.sheet.specs.Sheet.{binding, binding_row, trees, root, tree_rows, formula_rows, formula}
use Rattle.sheet.specs.Check.{passes, check_tests}
use Rattle.sheet.proofs.Preorder.{length-tree_rows, root-trees}
use Rattle.sheet.proofs.CheckTests.{passed, passed_sizes, map-binding_row}
use Rattle.sheet.proofs.Accepted.{accepted_length, formula_rows-formula}
use Rattle.rows.specs.Formats.{format_of}
use Rattle.rows.specs.Layouts.{rows_in, Room}
use Rattle.rows.specs.Formulas.{prefix_in, node_rows_in, matrix_in, formula_in, Readable, layout_of}
use Rattle.rows.specs.declared.Format.{Format}
use Rattle.rows.specs.declared.Layout.{Layout}
use Rattle.rows.proofs.Limits.{limits}
use Rattle.rows.proofs.Layouts.{all_rows_in, length-rows_in}

-- the formula of a sheet
pub formula_read : (f : Format) (b : Bytes) → formula_in (layout_of f b) b ≡ formula (format_of f) b
unfolding formula_in prefix_in matrix_in node_rows_in formula prefix_rows node_rows
formula_read f b = rw (all_rows_in f b)

-- a node row by its number among all rows
pub node_row : (s : Layout) (b : Bytes) (i : ℕ) → get_or (rows_in s b) (s.variables + i) (row 0 0) ≡ get_or (node_rows_in s b) i (row 0 0)
unfolding node_rows_in
node_row s b i = sym (get_or-drop s.variables (rows_in s b) i (row 0 0))

module _ {s : Layout} (b : Bytes) (room : Room s (length b)) where
  pub prefix_length : length (prefix_in s b) ≡ s.variables
  unfolding prefix_in
  prefix_length =
      length-map (take s.variables (rows_in s b)) binding ∙
      length-take-le s.variables (rows_in s b) (omega (arith, length-rows_in b room))

  length-bound : length (map binding_row (prefix_in s b)) ≡ s.variables
  length-bound = length-map (prefix_in s b) binding_row ∙ prefix_length

  -- the first rows are quantifiers, and those behind them the nodes of one tree
  module _ (is : formula_rows (formula_in s b) ≡ rows_in s b) where
    pub prefix_is : map binding_row (prefix_in s b) ≡ take s.variables (rows_in s b)
    unfolding formula_rows formula_in
    prefix_is =
        sym (take_at (map binding_row (prefix_in s b)) (tree_rows (matrix_in s b)) s.variables length-bound) ∙
        ap (take s.variables) is

    pub matrix_is : tree_rows (matrix_in s b) ≡ node_rows_in s b
    unfolding formula_rows formula_in node_rows_in
    matrix_is =
        sym (drop_at (map binding_row (prefix_in s b)) (tree_rows (matrix_in s b)) s.variables length-bound) ∙
        ap (drop s.variables) is

module _ {s : Layout} (b : Bytes) (ok : Readable s b) where
  pub length-nodes : length (node_rows_in s b) ≡ s.nodes
  unfolding node_rows_in
  length-nodes = omega (arith, length-drop s.variables (rows_in s b), length-rows_in b ok.room)

  pub length_prefix : length (prefix_in s b) ≡ s.variables
  length_prefix = prefix_length b ok.room

  pub quantifiers : map binding_row (prefix_in s b) ≡ take s.variables (rows_in s b)
  quantifiers = prefix_is b ok.room ok.is_formula

  pub one_tree : tree_rows (matrix_in s b) ≡ node_rows_in s b
  one_tree = matrix_is b ok.room ok.is_formula

  pub rows-nodes : rows (matrix_in s b) ≡ s.nodes
  rows-nodes = sym (length-tree_rows (matrix_in s b)) ∙ ap length one_tree ∙ length-nodes

-- rows that have been written: a formula's rows are read as that formula
module _ (s : Layout) (b : Bytes) (g : Formula) (is : rows_in s b ≡ formula_rows g) (vs : length g.prefix ≡ s.variables) where
  counted : length (map binding_row g.prefix) ≡ s.variables
  counted = length-map g.prefix binding_row ∙ vs

  pub formula_written : formula_in s b ≡ g
  unfolding formula_in prefix_in matrix_in node_rows_in formula_rows
  formula_written =
      ap₂ (λ (p : Prefix) (t : Tree). record { prefix = p; matrix = t })
      (ap (λ rs. map binding (take s.variables rs)) is ∙
      ap (map binding) (take_at (map binding_row g.prefix) (tree_rows g.matrix) s.variables counted) ∙
      map-binding_row g.prefix)
      (ap (λ rs. root (trees (drop s.variables rs))) is ∙
      ap (λ rs. root (trees rs)) (drop_at (map binding_row g.prefix) (tree_rows g.matrix) s.variables counted) ∙
      root-trees g.matrix)

  pub written_is_formula : formula_rows (formula_in s b) ≡ rows_in s b
  written_is_formula = ap formula_rows formula_written ∙ sym is

-- a sheet that Check accepts is readable
module _ (f : Format) (b : Bytes) (h : passes (check_tests (format_of f) b) ≡ true) where
  pub accepted_readable : Readable (layout_of f b) b
  unfolding sheet_length
  accepted_readable =
      let F = format_of f in
      let sizes = passed_sizes F b (passed F b h).sizes in
      record {
        room = record { holds = omega (arith, accepted_length F b h) };
        few_variables = omega (arith, sizes.few_variables, (limits f).few_variables);
        some_nodes = omega (arith, sizes.some_node);
        few_nodes = omega (arith, sizes.few_nodes, (limits f).few_nodes);
        is_formula = ap formula_rows (formula_read f b) ∙ formula_rows-formula F b h ∙ all_rows_in f b;
      }
