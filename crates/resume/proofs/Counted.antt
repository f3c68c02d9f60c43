-- Counts: whether they add up, and that those of a run may be added.
-- Assumes nothing.
use mathlib.Core.Path.{◌≡◌, refl, ap}
use mathlib.Core.Bool.{Bool, true, false}
use Prim.Native.Nat.{ℕ, ◌+◌, ◌-◌, ◌^◌, ◌≤◌, ◌<◌}
use native.Mathlib.Omega.{arith}
use lib.Dec.{eqb}
use borrow.Author.Tests.{eqb-true, eqb-false, eq-eqb, ne_eqb}
use Rattle.formula.specs.Solve.{State, End, ended, stopped}
use Rattle.formula.proofs.Solve.{solve_right}
use Rattle.sheet.specs.Format.{Bytes, wide, fits}
use Rattle.sheet.specs.Operations.{solved, Solving, solving}
use Rattle.sheet.specs.Trace.{room}
use Rattle.rows.specs.Formulas.{formula_in}
use Rattle.rows.specs.declared.Layout.{Layout}
use Rattle.rows.proofs.Formulas.{length_prefix}
use Rattle.solve.specs.declared.Solved.{Solved}
use Rattle.solve.specs.declared.Solved.TheVariants.{Stopped, Ended}
use Rattle.solve.specs.Answers.{solved_answer}
use Rattle.resume.specs.Inner.Going.{Placed, wide_run, wide_call, Addable}

-- two tests for the same thing
pub same_test : (a b c d : ℕ) → (a ≡ b → c ≡ d) → (c ≡ d → a ≡ b) → eqb a b ≡ eqb c d
same_test a b c d to from = by (eqb c d) refl
  where
    by : (t : Bool) → eqb c d ≡ t → eqb a b ≡ t
    by true e = eq-eqb a b (from (eqb-true c d e))
    by false e = ne_eqb a b (λ h. eqb-false c d e (to h))

-- step by step
pub by_steps : (started settled expanded left : ℕ) → settled ≤ started → expanded ≤ started - settled
    → eqb (started - settled - expanded) left ≡ eqb (settled + expanded + left) started
by_steps started settled expanded left h k =
    same_test (started - settled - expanded) left (settled + expanded + left) started (λ e. omega arith) (λ e. omega arith)

-- an answer's counts are at most the variables, so that they may be added to counts that leave room for these
few_counts : (r : Solved) (e : End) (s : State) (settled expanded : ℕ) → solved_answer r ≡ solved e s
    → settled + s.settles < 2 ^ 64 → expanded + s.expands < 2 ^ 64 → Addable settled expanded r
unfolding solved
few_counts (Stopped x n m) (ended v) s settled expanded h k l = let z : ◌≡◌ {A = ℕ} 0 1 = cc in absurd (omega arith)
few_counts (Stopped x n m) (stopped y) s settled expanded h k l =
    let a : n ≡ s.settles = cc in
    let b : m ≡ s.expands = cc in
    (omega arith, omega arith)
few_counts (Ended w n m) (stopped y) s settled expanded h k l = let z : ◌≡◌ {A = ℕ} 0 1 = cc in absurd (omega arith)
few_counts (Ended w n m) (ended v) s settled expanded h k l =
    let a : n ≡ s.settles = cc in
    let b : m ≡ s.expands = cc in
    (omega arith, omega arith)

pub addable : {s : Layout} {b : Bytes} (first second : Bytes) → Placed s b → (r : Solved) (started settled expanded : ℕ) {held cleared : Bytes}
    → record { answer = solved_answer r; first = held; second = cleared } ≡ wide_call s b first second → settled + expanded + s.variables ≡ started → started < 2 ^ 64
    → Addable settled expanded r
unfolding formula_in solving
addable {s} {b} first second ok r started settled expanded h sum small =
    let run = wide_run s b first second in
    let counts = (solve_right (fits wide (room first second)) (formula_in s b) ok.within.is_distinct ok.within.is_closed).counts in
    let left = length_prefix b ok.readable in
    few_counts r run.end run.state settled expanded (ap (λ (w : Solving). w.answer) h) (omega (arith, counts, left)) (omega (arith, counts, left))
