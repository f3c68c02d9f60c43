-- The pair that 27 names.
-- Assumes nothing.
use mathlib.Core.Path.{◌≡◌, refl, sym, ◌∙◌, ap}
use mathlib.Core.Bool.{Bool, true, false, not, ◌&&◌, cond, and-true, true≢false}
use mathlib.Core.List.{[], ◌∷◌}
use Prim.Native.Nat.{ℕ, suc, ◌+◌, ◌≤◌}
use native.Mathlib.Omega.{arith}
use borrow.Author.Tests.{not-false}
use Rattle.formula.specs.Tree.{Quantifier, Prefix, rows, rows_all}
use Rattle.formula.specs.Strategy.{Pairs, reads, beyond, in_order}
use Rattle.formula.specs.StrategyMatrix.{pair_trees, strategy_matrix}
use Rattle.sheet.specs.Strategy.{fault_row, AtFault}

-- a pair's rows: its AND, its literal and its function's
rows_pair : (i n k : ℕ) → i + (2 + n) + k ≡ i + (suc (1 + (n + 0)) + k)
rows_pair i n k = omega arith

no_rows : (i : ℕ) → i ≡ i + 0
no_rows i = omega arith

pub fault_pair : (q : Quantifier) (p : Prefix) (i : ℕ) (g : Pairs) → in_order q p g ≡ false → AtFault q p i g
unfolding in_order fault_row pair_trees rows
fault_pair q p i [] h = absurd (true≢false h)
fault_pair q p i (c ∷ g) h = by (in_order q p g) refl h (λ k. fault_pair q p (i + (2 + rows c.function)) g k)
  where
    by : (m : Bool) → in_order q p g ≡ m → (not (reads (beyond q p c.variable) (c ∷ g) c.variable) && m) ≡ false
        → (in_order q p g ≡ false → AtFault q p (i + (2 + rows c.function)) g) → AtFault q p i (c ∷ g)
    by true e k rest =
        record {
          in_front = [];
          pair = c;
          behind = g;
          are_pairs = refl;
          reads_so = not-false (reads (beyond q p c.variable) (c ∷ g) c.variable) (sym (and-true _) ∙ k);
          behind_ordered = e;
          at_row = ap (λ (m : Bool). cond m i (fault_row q p (i + (2 + rows c.function)) g)) e ∙ no_rows i;
        }
    by false e k rest =
        let r = rest e in
        record {
          in_front = c ∷ r.in_front;
          pair = r.pair;
          behind = r.behind;
          are_pairs = ap (λ (l : Pairs). c ∷ l) r.are_pairs;
          reads_so = r.reads_so;
          behind_ordered = r.behind_ordered;
          at_row =
              ap (λ (m : Bool). cond m i (fault_row q p (i + (2 + rows c.function)) g)) e ∙ r.at_row ∙
              rows_pair i (rows c.function) (rows_all (pair_trees r.in_front));
        }

-- its row is one of the sheet, or the one behind the last
pub fault_row_most : (q : Quantifier) (p : Prefix) (i : ℕ) (g : Pairs) → suc (fault_row q p i g) ≤ i + rows (strategy_matrix g)
unfolding fault_row strategy_matrix pair_trees rows
fault_row_most q p i [] = omega arith
fault_row_most q p i (c ∷ g) = by (in_order q p g) (fault_row_most q p (i + (2 + rows c.function)) g)
  where
    by : (m : Bool) → suc (fault_row q p (i + (2 + rows c.function)) g) ≤ i + (2 + rows c.function) + suc (rows_all (pair_trees g))
        → suc (cond m i (fault_row q p (i + (2 + rows c.function)) g)) ≤ i + suc (suc (1 + (rows c.function + 0)) + rows_all (pair_trees g))
    by true l = omega arith
    by false l = omega arith
