-- Runs under two tests of fit, one looser than the other: the looser one's run makes the same steps first, and a verdict stays.
-- Assumes nothing.
use mathlib.Core.Path.{◌≡◌, refl, sym, ap, subst}
use mathlib.Core.Logic.{◌⊎◌, inl, inr}
use mathlib.Core.Bool.{Bool, true, false, cond}
use mathlib.Core.List.{List, [], ◌∷◌, get_last?}
use mathlib.Core.Option.{Option, none, some}
use Prim.Native.Nat.{ℕ, zero, suc, ◌≤◌}
use native.Mathlib.Omega.{arith}
use Rattle.formula.specs.Tree.{Formula}
use Rattle.formula.specs.Expand.{expanded}
use Rattle.formula.specs.Solve.{cheapest, State, stopped, Step, halt, next, Fits, fits_raw, expand_step, undecided_step, step_by, step, Run, go_on, run, solve}
use Rattle.formula.specs.Right.{Longer}
use Rattle.formula.specs.Trace.{Looser, onward, trace, solve_trace}

-- the last state of a trace is the one that the run reaches

last-∷ : (s : State) (l : List State) {u : State} → get_last? l ≡ some u → get_last? (s ∷ l) ≡ some u
last-∷ s [] h = let z : ◌≡◌ {A = ℕ} 0 1 = cc in absurd (omega arith)
last-∷ s (t ∷ l) h = h

pub last-trace : (fits : Fits) (n : ℕ) (s : State) → get_last? (trace fits n s) ≡ some (run fits n s).state
unfolding trace run go_on onward
last-trace fits zero s = refl
last-trace fits (suc n) s = by (step fits s) (last-trace fits n)
  where
    by : (t : Step) → ((u : State) → get_last? (trace fits n u) ≡ some (run fits n u).state)
        → get_last? (s ∷ onward t (λ u. trace fits n u)) ≡ some (go_on t s (λ u. run fits n u)).state
    by (halt e) more = refl
    by (next u) more = last-∷ s (trace fits n u) (more u)

pub last-solve_trace : (fits : Fits) (f : Formula) → get_last? (solve_trace fits f) ≡ some (solve fits f).state
unfolding solve_trace solve
last-solve_trace fits f = last-trace fits _ _

stopped_longer : (s : State) (x : ℕ) (r' : Run) (more : List State) → Longer (record { end = stopped x; state = s }) r' (s ∷ []) (s ∷ more)
stopped_longer s x r' more =
    record { begins = (more, refl); on_ended = λ v e. let z : ◌≡◌ {A = ℕ} 0 1 = cc in absurd (omega arith) }

module _ (fits fits' : Fits) (looser : Looser fits fits') where
  -- the looser test's step is the same, unless the other one stops
  Follows : Step → Step → Type 0
  Follows t t' = (t' ≡ t) ⊎ ((x : ℕ) × (t ≡ halt (stopped x)))

  expand_follows : (s : State) (o : Option ℕ) → Follows (expand_step fits s o) (expand_step fits' s o)
  unfolding expand_step fits_raw Follows
  expand_follows s none = inl refl
  expand_follows s (some x) = by (fits_raw fits x s.formula) (fits_raw fits' x s.formula) (looser _ _)
    where
      made : Step
      made = next (record { formula = expanded x s.formula; settles = s.settles; expands = suc s.expands })

      by : (m m' : Bool) → (m ≡ true → m' ≡ true) → Follows (cond m made (halt (stopped x))) (cond m' made (halt (stopped x)))
      by true m' h = inl (ap (λ (b : Bool). cond b made (halt (stopped x))) (h refl))
      by false m' h = inr (x, refl)

  undecided_follows : (s : State) (o : Option ℕ) → Follows (undecided_step fits s o) (undecided_step fits' s o)
  unfolding undecided_step Follows
  undecided_follows s none = expand_follows s (cheapest s.formula)
  undecided_follows s (some x) = inl refl

  by_follows : (s : State) (o : Option Bool) → Follows (step_by fits s o) (step_by fits' s o)
  unfolding step_by Follows
  by_follows s (some v) = inl refl
  by_follows s none = undecided_follows s _

  pub step_follows : (s : State) → (step fits' s ≡ step fits s) ⊎ ((x : ℕ) × (step fits s ≡ halt (stopped x)))
  unfolding step Follows
  step_follows s = by_follows s _

  pub run_longer : (n m : ℕ) → n ≤ m → (s : State) → Longer (run fits n s) (run fits' m s) (trace fits n s) (trace fits' m s)
  unfolding run go_on trace onward
  run_longer zero zero h s = stopped_longer s 0 _ []
  run_longer zero (suc m) h s = stopped_longer s 0 _ _
  run_longer (suc n) zero h s = absurd (omega arith)
  run_longer (suc n) (suc m) h s = by (step fits s) (step fits' s) (step_follows s) (run_longer n m (omega arith))
    where
      -- the runs after the steps t and t'
      After : Step → Step → Type 0
      After t t' = Longer (go_on t s (λ u. run fits n u)) (go_on t' s (λ u. run fits' m u)) (s ∷ onward t (λ u. trace fits n u))
          (s ∷ onward t' (λ u. trace fits' m u))

      same : (t : Step) → ((u : State) → Longer (run fits n u) (run fits' m u) (trace fits n u) (trace fits' m u)) → After t t
      same (halt e) more = record { begins = ([], refl); on_ended = λ v k. (refl, refl) }
      same (next u) more =
          let l = more u in
          record {
            begins = (l.begins.0, ap (λ (r : List State). s ∷ r) l.begins.1);
            on_ended = λ v k. ((l.on_ended v k).0, ap (λ (r : List State). s ∷ r) (l.on_ended v k).1);
          }

      by : (t t' : Step) → (t' ≡ t) ⊎ ((x : ℕ) × (t ≡ halt (stopped x)))
          → ((u : State) → Longer (run fits n u) (run fits' m u) (trace fits n u) (trace fits' m u)) → After t t'
      by t t' (inl k) more = subst (After t) (sym k) (same t more)
      by t t' (inr k) more = subst (λ (u : Step). After u t') (sym k.1) (stopped_longer s k.0 _ _)

  pub solve_longer : (f : Formula) → Longer (solve fits f) (solve fits' f) (solve_trace fits f) (solve_trace fits' f)
  unfolding solve solve_trace
  solve_longer f = run_longer _ _ (omega arith) _
