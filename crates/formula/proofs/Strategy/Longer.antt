-- Strategies under two tests of fit, one looser than the other: where the run ended with a verdict the strategy stays.
-- Assumes nothing.
use mathlib.Core.Path.{◌≡◌, refl, sym, ◌∙◌, ap}
use mathlib.Core.Logic.{◌⊎◌, inl, inr}
use mathlib.Core.Bool.{Bool}
use mathlib.Core.List.{List, ◌∷◌}
use Prim.Native.Nat.{ℕ, zero, suc}
use native.Mathlib.Omega.{arith}
use Rattle.formula.specs.Tree.{Quantifier, Formula}
use Rattle.formula.specs.Tidy.{tidied}
use Rattle.formula.specs.Solve.{lowest, cheapest, State, ended, stopped, Step, halt, next, Fits, step, go_on, run, solve}
use Rattle.formula.specs.Trace.{Looser}
use Rattle.formula.specs.Strategy.{Move, strategy, move_by, moves_on, run_moves, solve_moves, solve_strategy}
use Rattle.formula.proofs.Longer.{step_follows}

module _ (fits fits' : Fits) (looser : Looser fits fits') where
  run_moves_longer : (n : ℕ) (s : State) (v : Bool) → (run fits n s).end ≡ ended v → run_moves fits' n s ≡ run_moves fits n s
  unfolding run go_on run_moves moves_on
  run_moves_longer zero s v h = refl
  run_moves_longer (suc n) s v h = by (step fits s) (step fits' s) (step_follows fits fits' looser s) h (λ u k. run_moves_longer n u v k)
    where
      m : Move
      m = move_by (lowest s.formula) (cheapest s.formula)

      same : (t : Step) → (go_on t s (λ u. run fits n u)).end ≡ ended v
          → ((u : State) → (run fits n u).end ≡ ended v → run_moves fits' n u ≡ run_moves fits n u)
          → moves_on t m (λ u. run_moves fits' n u) ≡ moves_on t m (λ u. run_moves fits n u)
      same (halt e) k rest = refl
      same (next u) k rest = ap (λ (l : List Move). m ∷ l) (rest u k)

      by : (t t' : Step) → (t' ≡ t) ⊎ ((x : ℕ) × (t ≡ halt (stopped x))) → (go_on t s (λ u. run fits n u)).end ≡ ended v
          → ((u : State) → (run fits n u).end ≡ ended v → run_moves fits' n u ≡ run_moves fits n u)
          → moves_on t' m (λ u. run_moves fits' n u) ≡ moves_on t m (λ u. run_moves fits n u)
      by t t' (inl e) k rest = ap (λ (r : Step). moves_on r m (λ u. run_moves fits' n u)) e ∙ same t k rest
      by t t' (inr e) k rest =
          let stops : stopped e.0 ≡ ended v = ap (λ (r : Step). (go_on r s (λ u. run fits n u)).end) (sym e.1) ∙ k in
          let z : ◌≡◌ {A = ℕ} 0 1 = cc in
          absurd (omega arith)

  pub solve_strategy_longer : (q : Quantifier) (f : Formula) (v : Bool) → (solve fits f).end ≡ ended v
      → solve_strategy fits' q f ≡ solve_strategy fits q f
  unfolding solve solve_moves solve_strategy
  solve_strategy_longer q f v h = ap (λ (l : List Move). strategy q l (tidied f)) (run_moves_longer _ _ v h)
