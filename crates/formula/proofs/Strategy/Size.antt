-- How many rows the strategy of Solve's run has: each function has no more than the matrix that it is taken from, and no matrix of the run has
-- more than the test of fit allows.
-- Assumes nothing.
use mathlib.Core.Path.{◌≡◌, refl, sym, ap, subst}
use mathlib.Core.Bool.{Bool, true, false, cond}
use mathlib.Core.List.{[], ◌∷◌}
use Prim.Native.Nat.{ℕ, zero, suc, ◌+◌, ◌*◌, ◌≤◌}
use native.Mathlib.Nat.{le_trans}
use native.Mathlib.Omega.{arith}
use lib.ListN.{length}
use Rattle.formula.specs.Tree.{Quantifier, same_op, constant, Prefix, Formula, rows, distinct, closed}
use Rattle.formula.specs.Tidy.{tidied}
use Rattle.formula.specs.Solve.{lowest, cheapest, State, Step, halt, next, Fits, fits_raw, step}
use Rattle.formula.specs.Strategy.{Pairs, Move, owns, moved, left, strategy, move_by, run_moves, solve_moves, solve_strategy}
use Rattle.formula.specs.StrategyMatrix.{strategy_matrix}
use Rattle.formula.proofs.Tidy.Growth.{rows-tidy}
use Rattle.formula.proofs.Steps.{Proper, proper_tidied, rows_settled, rows-expanded}
use Rattle.formula.proofs.Solve.{Made, Right, step_right}
use Rattle.formula.proofs.Resume.{Keeps, Kept, step_keeps}
use Rattle.formula.proofs.Strategy.Function.{rows_some, rows-constant, rows_function}
use Rattle.formula.proofs.Strategy.Matrix.{matrix_rows, rows_matrix}
use Rattle.formula.proofs.Strategy.Moves.{pair_of}
use Rattle.formula.proofs.Strategy.Wins.{strategy_halts, strategy_steps}

module _ (fits : Fits) (most : ℕ) (few : (v n : ℕ) → fits v n ≡ true → n ≤ most) (q : Quantifier) where
  abbrev Few : Formula → Type 0
  Few f = rows f.matrix ≤ most

  keeps : Keeps fits Few
  unfolding fits_raw
  keeps =
      record {
        settling = λ f x b p bound i still. le_trans (rows_settled x b f) i;
        expanding = λ f x p bound fit i still. le_trans (rows-expanded x f) (few _ _ fit);
      }

  -- a row of the prefix has at most one pair, of two rows and the function's
  more : (k : ℕ) → suc k * (2 + most) ≡ 2 + most + k * (2 + most)
  more k = omega arith

  rows_left : (p : Prefix) → 1 ≤ most → matrix_rows (left q p) ≤ suc (length p * (2 + most))
  unfolding left matrix_rows
  rows_left [] l = omega arith
  rows_left (z ∷ p) l = by (same_op q z.quantifier) (rows_left p l)
    where
      by : (m : Bool) → matrix_rows (left q p) ≤ suc (length p * (2 + most))
          → matrix_rows (cond m (record { variable = z.variable; function = constant false } ∷ left q p) (left q p)) ≤ suc (suc (length p) * (2 + most))
      by true k = omega (arith, k, l, rows-constant false, more (length p))
      by false k = omega (arith, k, more (length p))

  rows_run : (n : ℕ) (s : State) → Proper s.formula → Few s.formula
      → matrix_rows (strategy q (run_moves fits n s) s.formula) ≤ suc (length s.formula.prefix * (2 + most))
  unfolding run_moves strategy Right Kept matrix_rows
  rows_run zero s p i = rows_left s.formula.prefix (omega (arith, i, rows_some s.formula.matrix))
  rows_run (suc n) s p i = by (step fits s) refl (step_right fits s p) (step_keeps fits Few keeps s p i) (λ u. rows_run n u)
    where
      m : Move
      m = move_by (lowest s.formula) (cheapest s.formula)

      own : (u : State) (c : Bool)
          → matrix_rows (strategy q (run_moves fits n u) u.formula) ≤ suc (length u.formula.prefix * (2 + most)) → Made s u
          → (let rest = strategy q (run_moves fits n u) u.formula in
          matrix_rows (cond c (pair_of m s.formula ∷ rest) rest) ≤ suc (length s.formula.prefix * (2 + most)))
      own u true k made =
          omega (
            arith,
            k,
            i,
            rows_function (moved m) s.formula,
            more (length u.formula.prefix),
            ap (λ l. l * (2 + most)) made.one_less,
          )
      own u false k made = omega (arith, k, more (length u.formula.prefix), ap (λ l. l * (2 + most)) made.one_less)

      by : (t : Step) → step fits s ≡ t → Right fits s t → Kept fits Few keeps t
          → ((u : State) → Proper u.formula → Few u.formula
          → matrix_rows (strategy q (run_moves fits n u) u.formula) ≤ suc (length u.formula.prefix * (2 + most)))
          → matrix_rows (strategy q (run_moves fits (suc n) s) s.formula) ≤ suc (length s.formula.prefix * (2 + most))
      by (halt e) h r k rest =
          subst (λ (g : Pairs). matrix_rows g ≤ suc (length s.formula.prefix * (2 + most))) (sym (strategy_halts fits q n s e h))
          (rows_left s.formula.prefix (omega (arith, i, rows_some s.formula.matrix)))
      by (next u) h r k rest =
          let made : Made s u = r in
          subst (λ (g : Pairs). matrix_rows g ≤ suc (length s.formula.prefix * (2 + most))) (sym (strategy_steps fits q n s u h))
          (own u (owns q s.formula.prefix (moved m)) (rest u made.still_proper k) made)

  pub rows-solve_strategy : (f : Formula) → distinct f.prefix ≡ true → closed f ≡ true → rows f.matrix ≤ most
      → rows (strategy_matrix (solve_strategy fits q f)) ≤ suc (length f.prefix * (2 + most))
  unfolding solve_strategy solve_moves tidied
  rows-solve_strategy f d c l =
      let first : State = record { formula = tidied f; settles = 0; expands = 0 } in
      omega (
        arith,
        rows_matrix (solve_strategy fits q f),
        rows_run (suc (length f.prefix)) first (proper_tidied f d c) (le_trans (rows-tidy f.matrix) l),
      )
