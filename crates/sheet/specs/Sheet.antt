-- From bytes to prefix and tree, and from prefix and tree to bytes ("The sheet").
-- Assumes nothing.
use Rattle.std.specs.Prelude.{Bool, true, false, cond, List, [], ◌∷◌, ◌++◌, map, ℕ, zero, suc, eqb, length}
use Rattle.formula.specs.Tree.{Op, and, or, Quantifier, exists, for_all, Tree, lit, node, Forest, ∅, ◌▸◌, Binding, Formula, rows, count}
use Rattle.sheet.specs.Format.{Bytes, Format, Row, row, digits, prefix_rows, node_rows}

-- the kinds: 1 exists, 2 for all
abbrev pub quantifier_kind : Quantifier → ℕ
quantifier_kind or = 1
quantifier_kind and = 2

unfoldable pub binding : Row → Binding
binding r = record { quantifier = cond (eqb r.kind 1) exists for_all; variable = r.argument }

-- 3 a variable, 4 its negation
abbrev pub literal_kind : Bool → ℕ
literal_kind true = 3
literal_kind false = 4

-- 5 AND, 6 OR
abbrev pub operator_kind : Op → ℕ
operator_kind and = 5
operator_kind or = 6

-- the first n trees, and those behind them
unfoldable pub front : ℕ → Forest → Forest
front zero ts = ∅
front (suc n) ∅ = ∅
front (suc n) (t ▸ ts) = t ▸ front n ts

unfoldable pub behind : ℕ → Forest → Forest
behind zero ts = ts
behind (suc n) ∅ = ∅
behind (suc n) (t ▸ ts) = behind n ts

-- Preorder, read from the last row to the first: an operator takes its children from the front of the trees behind it.
unfoldable pub grow : Row → Forest → Forest
grow r ts =
    cond (eqb r.kind 3) (lit true r.argument ▸ ts)
    (cond (eqb r.kind 4) (lit false r.argument ▸ ts)
    (node (cond (eqb r.kind 5) and or) (front r.argument ts) ▸ behind r.argument ts))

unfoldable pub trees : List Row → Forest
trees [] = ∅
trees (r ∷ rs) = grow r (trees rs)

-- a sheet that Check accepts has exactly one tree
unfoldable pub root : Forest → Tree
root ∅ = node or ∅
root (t ▸ ts) = t

unfoldable pub formula : Format → Bytes → Formula
formula F b = record { prefix = map binding (prefix_rows F b); matrix = root (trees (node_rows F b)) }

-- the other way: the rows of a prefix and of a tree, and their bytes
unfoldable pub binding_row : Binding → Row
binding_row z = row (quantifier_kind z.quantifier) z.variable

unfoldable mutual
  pub tree_rows : Tree → List Row
  tree_rows (lit s v) = row (literal_kind s) v ∷ []
  tree_rows (node o ts) = row (operator_kind o) (count ts) ∷ forest_rows ts

  pub forest_rows : Forest → List Row
  forest_rows ∅ = []
  forest_rows (t ▸ ts) = tree_rows t ++ forest_rows ts

unfoldable pub formula_rows : Formula → List Row
formula_rows f = map binding_row f.prefix ++ tree_rows f.matrix

unfoldable pub row_kinds : List Row → Bytes
row_kinds [] = []
row_kinds (r ∷ rs) = r.kind ∷ row_kinds rs

unfoldable pub row_arguments : ℕ → List Row → Bytes
row_arguments w [] = []
row_arguments w (r ∷ rs) = digits w r.argument ++ row_arguments w rs

unfoldable pub sheet : Format → Formula → Bytes
sheet F f =
    digits F.width (length f.prefix) ++ digits F.width (rows f.matrix) ++ row_kinds (formula_rows f) ++
    row_arguments F.width (formula_rows f)
