-- Pairs read back are those that were strategy-matrix, and a matrix that can be read is the one written for what is read.
-- Assumes nothing.
use mathlib.Core.Path.{◌≡◌, refl, ◌∙◌, ap, ap₂}
use mathlib.Core.Bool.{Bool, true, false, true≢false}
use mathlib.Core.List.{[], ◌∷◌}
use mathlib.Core.Option.{Option, none, some}
use Prim.Native.Nat.{ℕ, suc, ◌+◌}
use native.Mathlib.Omega.{arith}
use Rattle.formula.specs.Tree.{Tree, lit, node, and, or, Forest, ∅, ◌▸◌, rows, rows_all}
use Rattle.formula.specs.Strategy.{Pair, Pairs}
use Rattle.formula.specs.StrategyMatrix.{pair_trees, strategy_matrix, read_function, read_children, read_pair, and_rest, read_all, pairs_of}

read_pair-trees : (g : Pairs) → read_all (pair_trees g) ≡ some g
unfolding pair_trees read_all read_pair read_children read_function and_rest
read_pair-trees [] = refl
read_pair-trees (c ∷ g) = ap (and_rest (some c)) (read_pair-trees g)

pub pairs_matrix : (g : Pairs) → pairs_of (strategy_matrix g) ≡ some g
unfolding pairs_of strategy_matrix
pairs_matrix g = read_pair-trees g

-- the tree of one pair
abbrev pair_tree : Pair → Tree
pair_tree c = node and (lit true c.variable ▸ c.function ▸ ∅)

nothing_read : {A B : Type 0} {a : A} → ◌≡◌ {A = Option A} none (some a) → B
nothing_read e = let z : ◌≡◌ {A = Bool} true false = cc in absurd (true≢false z)

pair_tree_read : (t : Tree) (c : Pair) → read_pair t ≡ some c → t ≡ pair_tree c
unfolding read_pair read_children read_function
pair_tree_read (lit s v) c h = nothing_read h
pair_tree_read (node or ts) c h = nothing_read h
pair_tree_read (node and ∅) c h = nothing_read h
pair_tree_read (node and (node o us ▸ ts)) c h = nothing_read h
pair_tree_read (node and (lit false x ▸ ts)) c h = nothing_read h
pair_tree_read (node and (lit true x ▸ ∅)) c h = nothing_read h
pair_tree_read (node and (lit true x ▸ t ▸ u ▸ ts)) c h = nothing_read h
pair_tree_read (node and (lit true x ▸ t ▸ ∅)) c h = ap pair_tree same
  where
    same : record { variable = x; function = t } ≡ c
    same = cc

pair_trees_read : (ts : Forest) (g : Pairs) → read_all ts ≡ some g → ts ≡ pair_trees g
unfolding read_all pair_trees and_rest
pair_trees_read ∅ [] h = refl
pair_trees_read ∅ (c ∷ g) h = let z : ◌≡◌ {A = Bool} true false = cc in absurd (true≢false z)
pair_trees_read (t ▸ ts) g h = by (read_pair t) refl (read_all ts) refl h (λ r k. pair_trees_read ts r k)
  where
    by : (o : Option Pair) → read_pair t ≡ o → (r : Option Pairs) → read_all ts ≡ r → and_rest o r ≡ some g
        → ((r : Pairs) → read_all ts ≡ some r → ts ≡ pair_trees r) → (t ▸ ts) ≡ pair_trees g
    by none e r k i rest = nothing_read i
    by (some c) e none k i rest = nothing_read i
    by (some c) e (some r) k i rest =
        let both : (c ∷ r) ≡ g = cc in
        ap₂ (λ (u : Tree) (us : Forest). u ▸ us) (pair_tree_read t c e) (rest r k) ∙ ap pair_trees both

pub matrix_pairs : (t : Tree) (g : Pairs) → pairs_of t ≡ some g → t ≡ strategy_matrix g
unfolding pairs_of strategy_matrix
matrix_pairs (lit s v) g h = nothing_read h
matrix_pairs (node and ts) g h = nothing_read h
matrix_pairs (node or ts) g h = ap (node or) (pair_trees_read ts g h)

-- two rows and the function's for each pair, and one
unfoldable pub matrix_rows : Pairs → ℕ
matrix_rows [] = 1
matrix_rows (c ∷ g) = 2 + rows c.function + matrix_rows g

rows-pair_trees : (g : Pairs) → suc (rows_all (pair_trees g)) ≡ matrix_rows g
unfolding rows pair_trees matrix_rows
rows-pair_trees [] = refl
rows-pair_trees (c ∷ g) = let e = rows-pair_trees g in omega arith

pub rows_matrix : (g : Pairs) → rows (strategy_matrix g) ≡ matrix_rows g
unfolding rows strategy_matrix
rows_matrix g = rows-pair_trees g
