-- From the rows of a formula to its tidied sheet.
-- Assumes nothing.
use mathlib.Core.Path.{◌≡◌, refl, sym, ap, ap₂, ◌∙◌, subst}
use mathlib.Core.Bool.{Bool, true, false}
use mathlib.Core.List.{List, [], ◌++◌, map, append_assoc, append-nil}
use Prim.Native.Nat.{ℕ, ◌+◌, ◌-◌, ◌≤◌}
use native.Mathlib.Omega.{arith}
use lib.ListN.{length, take, drop}
use lib.Seq.{length-take-le}
use Rattle.formula.specs.Tree.{Op, and, or, Tree, lit, node, Forest, ∅, ◌▸◌, Formula, rows, count}
use Rattle.formula.specs.Tidy.{tidy, tidy_all, tidied}
use Rattle.formula.proofs.Forests.{count-⧺}
use Rattle.sheet.specs.Format.{Bytes, Row, row, children}
use Rattle.sheet.specs.Sheet.{literal_kind, operator_kind, binding_row, trees, tree_rows, forest_rows, formula_rows, sheet}
use Rattle.sheet.specs.Operations.{padded}
use Rattle.sheet.proofs.Preorder.{trees_tree, trees_forest}
use Rattle.sheet.proofs.RoundTrip.{length-formula_rows}
use Rattle.rows.specs.Layouts.{format_in, total, rows_in, Room, sealed}
use Rattle.rows.specs.Formulas.{node_rows_in, formula_in}
use Rattle.rows.specs.declared.Layout.{Layout}
use Rattle.rows.proofs.Layouts.{length-rows_in}
use Rattle.rows.proofs.Formulas.{prefix_length, prefix_is, matrix_is}
use Rattle.tidying.specs.Limits.{Raw}
use Rattle.tidying.specs.Inner.Operators.{Preorder, Tidies}
use Rattle.tidying.specs.Inner.Packed.{Packs}
use Rattle.tidying.specs.Inner.Tables.{Leaves}
use Rattle.rows.proofs.Sealed.{front-sealed}

-- the rows of a tree are nodes with their children behind them

literal-node : (s : Bool) (v : ℕ) (ts : Forest) → ((3 ≤ literal_kind s) × (literal_kind s ≤ 6)) × (children (row (literal_kind s) v) ≤ count ts)
unfolding children
literal-node true v ts = ((omega arith, omega arith), omega arith)
literal-node false v ts = ((omega arith, omega arith), omega arith)

operator_node : (o : Op) (n : ℕ) (ts : Forest) → n ≤ count ts
    → ((3 ≤ operator_kind o) × (operator_kind o ≤ 6)) × (children (row (operator_kind o) n) ≤ count ts)
unfolding children
operator_node and n ts l = ((omega arith, omega arith), l)
operator_node or n ts l = ((omega arith, omega arith), l)

mutual
  unfolding Preorder tree_rows

  preorder_tree : (t : Tree) (rs : List Row) → Preorder rs → Preorder (tree_rows t ++ rs)
  preorder_tree (lit s v) rs h = let c = literal-node s v (trees rs) in (c.0, c.1, h)
  preorder_tree (node o ts) rs h =
      let c = operator_node o (count ts) (trees (forest_rows ts ++ rs)) (omega (arith, ap count (trees_forest ts rs), count-⧺ ts (trees rs))) in
      (c.0, c.1, preorder_forest ts rs h)

  preorder_forest : (ts : Forest) (rs : List Row) → Preorder rs → Preorder (forest_rows ts ++ rs)
  preorder_forest ∅ rs h = h
  preorder_forest (t ▸ ts) rs h =
      subst Preorder (sym (append_assoc (tree_rows t) (forest_rows ts) rs)) (preorder_tree t (forest_rows ts ++ rs) (preorder_forest ts rs h))

module _ {s : Layout} (b : Bytes) (raw : Raw s b) where
  abbrev g : Formula
  g = formula_in s b

  length_prefix : length g.prefix ≡ s.variables
  unfolding formula_in
  length_prefix = prefix_length b raw.room

  bound : List Row
  bound = map binding_row g.prefix

  bound_is : take s.variables (rows_in s b) ≡ bound
  unfolding bound formula_in
  bound_is = sym (prefix_is b raw.room raw.is_formula)

  nodes_are : drop s.variables (rows_in s b) ≡ tree_rows g.matrix ++ []
  unfolding formula_in node_rows_in
  nodes_are = sym (matrix_is b raw.room raw.is_formula) ∙ sym (append-nil (tree_rows g.matrix))

  pub raw_preorder : Preorder (drop s.variables (rows_in s b))
  unfolding Preorder
  raw_preorder = subst Preorder (sym nodes_are) (preorder_tree g.matrix [] tt)

  one_tree : tidy_all (trees (drop s.variables (rows_in s b))) ≡ tidy g.matrix ▸ ∅
  unfolding tidy_all trees
  one_tree = ap (λ rs. tidy_all (trees rs)) nodes_are ∙ ap tidy_all (trees_tree g.matrix [])

  -- the rows that are left, as a sheet
  module _ {R : List Row} {K : List ℕ} (b' : Bytes) {m : ℕ} (tidies : Tidies (rows_in s b) R K s.variables (total s))
      (packs : Packs R (rows_in s b') K s.variables (total s) m) (l : m ≤ total s) (same : length b' ≡ length b) where
    left : take m (rows_in s b') ≡ formula_rows (tidied g)
    unfolding formula_rows tidied forest_rows bound
    left =
        packs (take s.variables (rows_in s b)) tidies.segments [] tidies.laid tidies.told ∙
        ap₂ (λ p ts. p ++ forest_rows ts) bound_is (tidies.reads ∙ one_tree) ∙
        ap (λ rs. bound ++ rs) (append-nil (tree_rows (tidy g.matrix)))

    room : Room s (length b')
    room = record { holds = omega (arith, raw.room.holds, same) }

    rows_left : m ≡ s.variables + rows (tidied g).matrix
    unfolding tidied formula_in
    rows_left =
        sym (length-take-le m (rows_in s b') (omega (arith, length-rows_in b' room))) ∙ ap length left ∙ length-formula_rows (tidied g) ∙
        ap (λ k. k + rows (tidied g).matrix) length_prefix

    pub prefix-left : s.variables ≤ m
    prefix-left = omega (arith, rows_left)

    nodes-left : m - s.variables ≡ rows (tidied g).matrix
    nodes-left = omega (arith, rows_left)

    sealed-is : sealed s m b' ≡ padded (length b) (sheet (format_in s) (tidied g))
    unfolding tidied formula_in
    sealed-is =
        front-sealed s b' (tidied g) left length_prefix rows_left ∙ ap (λ len. padded len (sheet (format_in s) (tidied g))) same

    pub leaves : {b₂ : Bytes} → b₂ ≡ sealed s m b'
        → Leaves s b b₂ (record { format = s.format; variables = s.variables; nodes = m - s.variables })
    unfolding tidied formula_in
    leaves e =
        record {
          sheet_is = e ∙ sealed-is;
          layout_is = ap₂ (λ v n. record { format = s.format; variables = v; nodes = n }) (sym length_prefix) nodes-left;
          smaller = (refl, omega arith);
        }
