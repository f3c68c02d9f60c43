-- Refusing alters no byte of an output ("What each operation turns away").
-- Assumes nothing.
use mathlib.Core.Path.{◌≡◌, refl, ap}
use mathlib.Core.List.{List}
use Prim.Native.Nat.{ℕ}
use native.Mathlib.Omega.{arith}
use Rattle.formula.specs.Solve.{State, End, ended, stopped, Run}
use Rattle.sheet.specs.Format.{Bytes, Format}
use Rattle.sheet.specs.Check.{Answer, refused, accepted, Test}
use Rattle.sheet.specs.Outer.{outer_call}
use Rattle.sheet.specs.Operations.{output_after, write, tidy_call, settle_call, expand_call, execute_call, reduce_call, is_refused, solved, solving, solve_call}

pub written_refused : (tests : List Test) (new out : Bytes) (n i : ℕ) → (write tests new out).answer ≡ refused n i → (write tests new out).output ≡ out
unfolding write output_after
written_refused tests new out n i h = ap (λ (a : Answer ℕ). output_after a new out) h

-- a run has another answer
pub solved-not_refused : (e : End) (s : State) {n i : ℕ} → solved e s ≡ is_refused n i → ⊥
unfolding solved
solved-not_refused (ended v) s k = let z : ◌≡◌ {A = ℕ} 0 1 = cc in omega arith
solved-not_refused (stopped x) s k = let z : ◌≡◌ {A = ℕ} 0 1 = cc in omega arith

solving_refused : (F : Format) (first second : Bytes) (n i : ℕ) (a : Answer Run) → (solving F first second a).answer ≡ is_refused n i
    → ((solving F first second a).first ≡ first) × ((solving F first second a).second ≡ second)
unfolding solving
solving_refused F first second n i (refused m j) k = (refl, refl)
solving_refused F first second n i (accepted r) k = absurd (solved-not_refused r.end r.state k)

module _ (F : Format) (b : Bytes) (n i : ℕ) where
  pub tidy_refused : (out : Bytes) → (tidy_call F b out).answer ≡ refused n i → (tidy_call F b out).output ≡ out
  unfolding tidy_call
  tidy_refused out h = written_refused _ _ out n i h

  pub reduce_refused : (out : Bytes) → (reduce_call F b out).answer ≡ refused n i → (reduce_call F b out).output ≡ out
  unfolding reduce_call
  reduce_refused out h = written_refused _ _ out n i h

  module _ (x : ℕ) (out : Bytes) where
    pub settle-refused : (settle_call F b x out).answer ≡ refused n i → (settle_call F b x out).output ≡ out
    unfolding settle_call
    settle-refused h = written_refused _ _ out n i h

    pub expand-refused : (expand_call F b x out).answer ≡ refused n i → (expand_call F b x out).output ≡ out
    unfolding expand_call
    expand-refused h = written_refused _ _ out n i h

    pub execute-refused : (ceiling : ℕ) → (execute_call F b x ceiling out).answer ≡ refused n i
        → (execute_call F b x ceiling out).output ≡ out
    unfolding execute_call
    execute-refused ceiling h = written_refused _ _ out n i h

    pub outer-refused : (outer_call F b x out).answer ≡ refused n i → (outer_call F b x out).output ≡ out
    unfolding outer_call
    outer-refused h = written_refused _ _ out n i h

  -- both work buffers of Solve
  pub solve_refused : (first second : Bytes) → (solve_call F b first second).answer ≡ is_refused n i
      → ((solve_call F b first second).first ≡ first) × ((solve_call F b first second).second ≡ second)
  unfolding solve_call
  solve_refused first second h = solving_refused F first second n i _ h
