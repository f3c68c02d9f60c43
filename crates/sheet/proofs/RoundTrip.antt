-- A formula within the limits, written as a sheet: Check accepts it, and it is read back as it was.
-- Assumes nothing.
use mathlib.Core.Path.{◌≡◌, sym, ap₂, ◌∙◌}
use mathlib.Core.Bool.{Bool, true, false, not}
use mathlib.Core.List.{List, [], ◌∷◌, ◌++◌, map}
use Prim.Native.Nat.{ℕ, ◌+◌, ◌<◌, ◌^◌}
use native.Mathlib.Omega.{arith}
use lib.ListN.{length, length-append, length-map}
use lib.Seq.{take_at, drop_at}
use borrow.Author.Tests.{not-true, not-false}
use Rattle.formula.specs.Tree.{Quantifier, and, or, Prefix, Formula, binds, rows, closed}
use Rattle.sheet.specs.Format.{Bytes, Format, sheet_length, number, digits, variables, nodes, Row, zip_rows, all_rows, prefix_rows, node_rows, Every, IsByte, AllBytes}
use Rattle.sheet.specs.Sheet.{quantifier_kind, binding_row, tree_rows, formula, formula_rows, row_kinds, row_arguments, sheet}
use Rattle.sheet.specs.Check.{accepted, passes, check_tests, check}
use Rattle.sheet.proofs.Every.{every-++, every_map}
use Rattle.sheet.proofs.Numbers.{length_digits, digits_bytes, number_digits}
use Rattle.sheet.proofs.Tests.{answer-passes}
use Rattle.sheet.specs.Limits.{Sound, numbered, Within}
use Rattle.sheet.proofs.Limits.{numbered-∷, binds-numbered}
use Rattle.sheet.proofs.Preorder.{root-trees, length-tree_rows, rows_positive, arguments-tree, tree_test_one, node-kind_byte, node_rows_tree}
use Rattle.sheet.proofs.Parts.{length-row_kinds, length-row_arguments, ArgumentFits, zip_rows-rows, Read, read_parts, sheet_length-rows}
use Rattle.sheet.proofs.CheckTests.{check_tests_pass, SizesFit, size_tests_pass, map-binding_row, quantifier_tests_pass, passes-node_tests}

-- any formula: the sheet's four parts

abbrev variables_part : Format → Formula → Bytes
variables_part F f = digits F.width (length f.prefix)

abbrev nodes_part : Format → Formula → Bytes
nodes_part F f = digits F.width (rows f.matrix)

abbrev kinds_part : Formula → Bytes
kinds_part f = row_kinds (formula_rows f)

abbrev arguments_part : Format → Formula → Bytes
arguments_part F f = row_arguments F.width (formula_rows f)

pub length-formula_rows : (f : Formula) → length (formula_rows f) ≡ length f.prefix + rows f.matrix
unfolding formula_rows
length-formula_rows f =
    length-append (map binding_row f.prefix) (tree_rows f.matrix) ∙
    ap₂ ◌+◌ (length-map f.prefix binding_row) (length-tree_rows f.matrix)

pub length-sheet : (F : Format) (f : Formula) → length (sheet F f) ≡ sheet_length F (length f.prefix) (rows f.matrix)
unfolding sheet
length-sheet F f =
    simp (length-append, length_digits, length-row_kinds, length-row_arguments, length-formula_rows, sheet_length-rows) (omega arith)

abbrev KindByte : Row → Type 0
KindByte r = r.kind < 256

kinds_bytes : (rs : List Row) → Every KindByte rs → AllBytes (row_kinds rs)
unfolding row_kinds
kinds_bytes [] h = tt
kinds_bytes (r ∷ rs) h = (h.0, kinds_bytes rs h.1)

arguments_bytes : (w : ℕ) (rs : List Row) → AllBytes (row_arguments w rs)
unfolding row_arguments
arguments_bytes w [] = tt
arguments_bytes w (r ∷ rs) = every-++ IsByte (digits w r.argument) (row_arguments w rs) (digits_bytes w r.argument) (arguments_bytes w rs)

prefix_kinds : (p : Prefix) → Every KindByte (map binding_row p)
unfolding binding_row
prefix_kinds [] = tt
prefix_kinds (z ∷ p) = (small z.quantifier, prefix_kinds p)
  where
    small : (q : Quantifier) → quantifier_kind q < 256
    small and = omega arith
    small or = omega arith

formula_kinds : (f : Formula) → Every KindByte (formula_rows f)
unfolding formula_rows
formula_kinds f =
    every-++ KindByte (map binding_row f.prefix) (tree_rows f.matrix) (prefix_kinds f.prefix)
    (every_map (λ r. node-kind_byte r.kind) (tree_rows f.matrix) (node_rows_tree f.matrix))

pub sheet_bytes : (F : Format) (f : Formula) → AllBytes (sheet F f)
unfolding sheet
sheet_bytes F f =
    let v = variables_part F f in
    let n = nodes_part F f in
    let sizes = every-++ IsByte v n (digits_bytes F.width (length f.prefix)) (digits_bytes F.width (rows f.matrix)) in
    every-++ IsByte (v ++ n ++ kinds_part f) (arguments_part F f)
    (every-++ IsByte (v ++ n) (kinds_part f) sizes (kinds_bytes (formula_rows f) (formula_kinds f)))
    (arguments_bytes F.width (formula_rows f))

-- a formula within the limits

module _ (F : Format) (s : Sound F) where
  arguments_fit_prefix : (p : Prefix) → numbered F p ≡ true → Every (ArgumentFits F.width) (map binding_row p)
  unfolding binding_row
  arguments_fit_prefix [] h = tt
  arguments_fit_prefix (z ∷ p) h =
      let n = numbered-∷ F z p h in
      (omega arith, arguments_fit_prefix p n.1)

  module _ (f : Formula) (h : Within F f) where
    literal-fits : (t : Bool) (v : ℕ) → not (binds f.prefix v) ≡ false → v < 256 ^ F.width
    literal-fits t v e = omega (arith, binds-numbered F f.prefix v h.is_numbered (not-false _ e))

    pub arguments_fit : Every (ArgumentFits F.width) (formula_rows f)
    unfolding formula_rows closed
    arguments_fit =
        every-++ (ArgumentFits F.width) (map binding_row f.prefix) (tree_rows f.matrix)
        (arguments_fit_prefix f.prefix h.is_numbered)
        (arguments-tree (256 ^ F.width) (λ t v. not (binds f.prefix v)) literal-fits f.matrix (omega arith) (not-true _ h.is_closed))

    number-variables : number (variables_part F f) ≡ length f.prefix
    number-variables = number_digits F.width (length f.prefix) (omega arith)

    number-nodes : number (nodes_part F f) ≡ rows f.matrix
    number-nodes = number_digits F.width (rows f.matrix) (omega arith)

    counted : length (kinds_part f) ≡ number (variables_part F f) + number (nodes_part F f)
    counted = length-row_kinds (formula_rows f) ∙ length-formula_rows f ∙ sym (ap₂ ◌+◌ number-variables number-nodes)

    read-sheet : Read F (sheet F f) (variables_part F f) (nodes_part F f) (kinds_part f) (arguments_part F f)
    unfolding sheet
    read-sheet = read_parts F _ _ _ _ (length_digits F.width _) (length_digits F.width _) counted

    pub variables-sheet : variables F (sheet F f) ≡ length f.prefix
    variables-sheet = read-sheet.variables_read ∙ number-variables

    pub nodes-sheet : nodes F (sheet F f) ≡ rows f.matrix
    nodes-sheet = read-sheet.nodes_read ∙ number-nodes

    pub all-rows-sheet : all_rows F (sheet F f) ≡ formula_rows f
    unfolding all_rows
    all-rows-sheet =
        ap₂ (zip_rows F.width) read-sheet.kinds_read read-sheet.arguments_read ∙
        zip_rows-rows F.width (formula_rows f) arguments_fit

    pub prefix-rows-sheet : prefix_rows F (sheet F f) ≡ map binding_row f.prefix
    unfolding prefix_rows formula_rows
    prefix-rows-sheet =
        rw (variables-sheet, all-rows-sheet)
        (take_at (map binding_row f.prefix) (tree_rows f.matrix) (length f.prefix) (length-map f.prefix binding_row))

    pub node-rows-sheet : node_rows F (sheet F f) ≡ tree_rows f.matrix
    unfolding node_rows formula_rows
    node-rows-sheet =
        rw (variables-sheet, all-rows-sheet)
        (drop_at (map binding_row f.prefix) (tree_rows f.matrix) (length f.prefix) (length-map f.prefix binding_row))

    pub formula-sheet : formula F (sheet F f) ≡ f
    unfolding formula
    formula-sheet = rw (prefix-rows-sheet, node-rows-sheet, map-binding_row, root-trees)

    sizes_fit : SizesFit F (sheet F f)
    sizes_fit =
        record {
          few_variables = rw variables-sheet h.few_variables;
          some_node = rw nodes-sheet (rows_positive f.matrix);
          few_nodes = rw nodes-sheet h.few_nodes;
          right_length = rw (variables-sheet, nodes-sheet) (length-sheet F f);
        }

    pub passes-sheet : passes (check_tests F (sheet F f)) ≡ true
    passes-sheet =
        let i = variables F (sheet F f) in
        check_tests_pass F (sheet F f)
        (record {
          sizes = size_tests_pass F (sheet F f) sizes_fit;
          quantifiers = rw prefix-rows-sheet (quantifier_tests_pass F f.prefix h.is_numbered h.is_distinct);
          node_kinds =
              rw (prefix-rows-sheet, node-rows-sheet, passes-node_tests (map binding_row f.prefix) f.matrix i, map-binding_row)
              h.is_closed;
          one_tree = rw node-rows-sheet (tree_test_one f.matrix i);
        })

    pub check-sheet : check F (sheet F f) ≡ accepted (record { variables = length f.prefix; nodes = rows f.matrix })
    unfolding check
    check-sheet =
        answer-passes (check_tests F (sheet F f)) _ passes-sheet ∙
        ap₂ (λ v n. accepted (record { variables = v; nodes = n })) variables-sheet nodes-sheet
