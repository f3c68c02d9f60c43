-- The rows of pairs, one pair after the other, and of a strategy as a whole.
-- Assumes nothing.
use mathlib.Core.Path.{◌≡◌, refl, sym, ap, ◌∙◌}
use mathlib.Core.Bool.{Bool, true, false, not, cond, beq}
use mathlib.Core.List.{[], ◌∷◌, ◌++◌, append-nil, append_assoc, map}
use Prim.Native.Nat.{ℕ, suc, ◌+◌, ◌≤◌}
use native.Mathlib.Omega.{arith}
use lib.ListN.{length}
use borrow.Author.Tests.{not-false}
use mir.Val.{bool_byte}
use Rattle.formula.specs.Tree.{Op, and, or, Quantifier, same_op, exists, constant, Binding, Prefix, count}
use Rattle.formula.specs.Strategy.{Pair, Pairs, winner, left}
use Rattle.formula.specs.StrategyMatrix.{pair_trees, strategy_matrix}
use Rattle.sheet.specs.Format.{row}
use Rattle.sheet.specs.Sheet.{binding_row, tree_rows, formula_rows}
use Rattle.sheet.specs.Strategy.{strategy_formula}
use Rattle.pairs.specs.Pairs.{head_rows, one_pair, row_left, pair_rows}

-- one pair, and those behind it
pub pair_rows-next : (c : Pair) (g : Pairs) → pair_rows (c ∷ g) ≡ one_pair c.variable c.function ++ pair_rows g
unfolding pair_trees tree_rows count
pair_rows-next c g = ap (λ l. (row 5 2 ∷ row 3 c.variable ∷ l) ++ pair_rows g) (append-nil (tree_rows c.function))

pub pair_rows-++ : (g h : Pairs) → pair_rows (g ++ h) ≡ pair_rows g ++ pair_rows h
unfolding pair_trees tree_rows
pair_rows-++ [] h = refl
pair_rows-++ (c ∷ g) h =
    pair_rows-next c (g ++ h) ∙ ap (λ l. one_pair c.variable c.function ++ l) (pair_rows-++ g h) ∙
    sym (append_assoc (one_pair c.variable c.function) (pair_rows g) (pair_rows h)) ∙
    ap (λ l. l ++ pair_rows h) (sym (pair_rows-next c g))

-- a row that is left, and those behind it
pub left-none : (q : Quantifier) → pair_rows (left q []) ≡ []
unfolding left pair_trees tree_rows
left-none q = refl

pub left-next : (q : Quantifier) (z : Binding) (p : Prefix) → pair_rows (left q (z ∷ p)) ≡ row_left q z ++ pair_rows (left q p)
unfolding left
left-next q z p = by (same_op q z.quantifier)
  where
    c : Pair
    c = record { variable = z.variable; function = constant false }

    by : (m : Bool) → pair_rows (cond m (c ∷ left q p) (left q p)) ≡ cond m (one_pair z.variable (constant false)) [] ++ pair_rows (left q p)
    by true = pair_rows-next c (left q p)
    by false = refl

-- whose row it is
pub side_of : (m : Bool) (o : Op) {e : Bool} → e ≡ same_op exists o → beq e m ≡ same_op (winner m) o
side_of true and h = ap (λ e. beq e true) h
side_of true or h = ap (λ e. beq e true) h
side_of false and h = ap (λ e. beq e false) h
side_of false or h = ap (λ e. beq e false) h

-- one row of the side, and how many it adds to the rows that are left
pub own_left : (m : Bool) (z : Binding) {e : Bool} → e ≡ same_op exists z.quantifier → not (beq e m) ≡ false → {x : ℕ} → x ≡ z.variable
    → head_rows x ++ (row 6 0 ∷ []) ≡ row_left (winner m) z
unfolding tree_rows count
own_left m z is own e =
    ap (λ x. row 5 2 ∷ row 3 x ∷ row 6 0 ∷ []) e ∙
    sym (ap (λ (m : Bool). cond m (one_pair z.variable (constant false)) []) (sym (side_of m z.quantifier is) ∙ not-false _ own))

pub one-left : (q : Quantifier) (z : Binding) → (bool_byte (same_op q z.quantifier) ≡ length (left q (z ∷ []))) × (bool_byte (same_op q z.quantifier) ≤ 1)
unfolding left
one-left q z = by (same_op q z.quantifier)
  where
    c : Pair
    c = record { variable = z.variable; function = constant false }

    by : (m : Bool) → (bool_byte m ≡ length (cond m (c ∷ []) [])) × (bool_byte m ≤ 1)
    by true = (refl, omega arith)
    by false = (refl, omega arith)

pub length-left : (q : Quantifier) (z : Binding) (p : Prefix) → length (left q (z ∷ p)) ≡ length (left q (z ∷ [])) + length (left q p)
unfolding left
length-left q z p = by (same_op q z.quantifier)
  where
    c : Pair
    c = record { variable = z.variable; function = constant false }

    by : (m : Bool) → length (cond m (c ∷ left q p) (left q p)) ≡ length (cond m (c ∷ []) []) + length (left q p)
    by true = omega arith
    by false = omega arith

-- the front and the pairs are the rows of the strategy's formula
pub count_pairs : (g : Pairs) → count (pair_trees g) ≡ length g
unfolding pair_trees count
count_pairs [] = refl
count_pairs (c ∷ g) = ap suc (count_pairs g)

pub strategy-rows : (p : Prefix) (g : Pairs) {n : ℕ} → n ≡ length g
    → (map binding_row p ++ (row 6 n ∷ [])) ++ pair_rows g ≡ formula_rows (strategy_formula p g)
unfolding strategy_formula strategy_matrix formula_rows tree_rows
strategy-rows p g {n} e =
    append_assoc (map binding_row p) (row 6 n ∷ []) (pair_rows g) ∙
    ap (λ k. map binding_row p ++ (row 6 k ∷ pair_rows g)) (e ∙ sym (count_pairs g))
