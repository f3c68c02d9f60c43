-- Demand 2 on bytes: what Solve and Trial answer is the truth of the sheet, and Solve's counts and buffers add up.
-- Assumes nothing.
use mathlib.Core.Path.{◌≡◌, refl, sym, ◌∙◌, ap, subst, subst₂}
use mathlib.Core.List.{◌++◌}
use mathlib.Core.Bool.{Bool, true}
use Prim.Native.Nat.{ℕ, ◌≤◌, ◌^◌}
use native.Mathlib.Omega.{arith}
use lib.ListN.{length}
use borrow.Author.Tests.{ltb-false}
use Rattle.formula.specs.Tree.{Formula}
use Rattle.formula.specs.Truth.{truth}
use Rattle.formula.specs.Solve.{State, End, ended, stopped, Run, solve}
use Rattle.formula.specs.Trial.{Tried, trial}
use Rattle.formula.specs.Right.{Stuck, SolveRight}
use Rattle.formula.proofs.Solve.{solve_right}
use Rattle.formula.proofs.Trial.{trial-verdict, trial-leaves}
use Rattle.sheet.specs.Format.{Bytes, Format, sheet_length, fits, variables}
use Rattle.sheet.specs.Sheet.{formula}
use Rattle.sheet.specs.Check.{Answer, refused, accepted, answer, passes, check_tests}
use Rattle.sheet.specs.Operations.{tidy_tests, Solved, is_refused, is_stopped, is_ended, solved, solving, solve_call, trial_call}
use Rattle.sheet.specs.Trace.{room}
use Rattle.sheet.specs.Reliance.{Reached}
use Rattle.sheet.proofs.Tests.{passed-∷, passed-++, answer-passes, accepted_passes}
use Rattle.sheet.proofs.Accepted.{accepted_length, accepted_within, accepted_variables, accepted_nodes}
use Rattle.sheet.proofs.Placed.{solve_placed}

module _ (F : Format) (b first second : Bytes) where
  reached : Run
  reached = solve (fits F (room first second)) (formula F b)

  -- an answer is known by its parts

  ended_parts : {v w : Bool} {n m k l : ℕ} → is_ended v n m ≡ is_ended w k l → (v ≡ w) × (n ≡ k) × (m ≡ l)
  ended_parts e = (cc, cc, cc)

  stopped_parts : {x y n m k l : ℕ} → is_stopped x n m ≡ is_stopped y k l → (x ≡ y) × (n ≡ k) × (m ≡ l)
  stopped_parts e = (cc, cc, cc)

  ended_by : (e : End) (s : State) (v : Bool) {n m : ℕ} → solved e s ≡ is_ended v n m → (e ≡ ended v) × (s.settles ≡ n) × (s.expands ≡ m)
  unfolding solved
  ended_by (ended w) s v h = let k = ended_parts h in (ap ended k.0, k.1, k.2)
  ended_by (stopped x) s v h = let z : ◌≡◌ {A = ℕ} 0 1 = cc in absurd (omega arith)

  stopped_by : (e : End) (s : State) (x : ℕ) {n m : ℕ} → solved e s ≡ is_stopped x n m → (e ≡ stopped x) × (s.settles ≡ n) × (s.expands ≡ m)
  unfolding solved
  stopped_by (ended w) s x h = let z : ◌≡◌ {A = ℕ} 0 1 = cc in absurd (omega arith)
  stopped_by (stopped y) s x h = let k = stopped_parts h in (ap stopped k.0, k.1, k.2)

  -- an accepted call shows its run
  record Shown : Type 0 where
    run_right : SolveRight (fits F (room first second)) (formula F b) reached
    answers : (solve_call F b first second).answer ≡ solved reached.end reached.state
    holds : Reached F b first second reached.state.formula reached.state.settles reached.state.expands

  -- an answer that is no refusal comes from a run
  shown : ((n i : ℕ) → (solve_call F b first second).answer ≡ is_refused n i → ⊥) → Shown
  unfolding solve_call solving tidy_tests reached solved
  shown no_refusal = by (answer (tidy_tests F b (room first second)) reached) refl
    where
      answer_of : Answer Run → Solved
      answer_of a = (solving F first second a).answer

      by : (a : Answer Run) → answer (tidy_tests F b (room first second)) reached ≡ a → Shown
      by (refused n i) e = absurd (no_refusal n i (ap answer_of e))
      by (accepted r) e =
          let passed = accepted_passes (tidy_tests F b (room first second)) reached r e in
          let checked = (passed-++ (check_tests F b) _ passed.0).0 in
          let w = accepted_within F b checked in
          let right = solve_right (fits F (room first second)) (formula F b) w.is_distinct w.is_closed in
          let done : answer (tidy_tests F b (room first second)) reached ≡ accepted reached
          = answer-passes (tidy_tests F b (room first second)) reached passed.0 in
          let says = ap answer_of done in
          let short = (passed-∷ _ _ (passed-++ (check_tests F b) _ passed.0).1).0 in
          let placed = solve_placed F (room first second) (formula F b)
          (record {
            within = w;
            has_place =
                subst₂ (λ v n. sheet_length F v n ≤ room first second) (sym (accepted_variables F b checked)) (sym (accepted_nodes F b checked))
                (omega (arith, ltb-false (room first second) (length b) short, accepted_length F b checked));
          }) in
          record {
            run_right = right;
            answers = says;
            holds =
                record {
                  in_first = ap (λ (x : Answer Run). (solving F first second x).first) done;
                  in_second = ap (λ (x : Answer Run). (solving F first second x).second) done;
                  within = placed.within;
                  is_neat = right.is_neat;
                  same_truth = right.same_truth;
                  counts = right.counts ∙ accepted_variables F b checked;
                  ends =
                      λ v. (
                        (λ h. (right.ends v).0 (ended_by reached.end reached.state v (sym says ∙ h)).0),
                        (λ d. says ∙ ap (λ (e : End). solved e reached.state) ((right.ends v).1 d)),
                      );
                  stops =
                      λ x. (
                        (λ h. (right.stops x).0 (stopped_by reached.end reached.state x (sym says ∙ h)).0),
                        (λ d. says ∙ ap (λ (e : End). solved e reached.state) ((right.stops x).1 d)),
                      );
                };
          }

  -- A verdict is that of the run, of a sheet that passed.
  pub run_ended : (v : Bool) (settles expands : ℕ) → (solve_call F b first second).answer ≡ is_ended v settles expands
      → (passes (check_tests F b) ≡ true) × ((solve (fits F (room first second)) (formula F b)).end ≡ ended v)
  unfolding solve_call solving tidy_tests reached
  run_ended v settles expands h = by (answer (tidy_tests F b (room first second)) reached) refl h
    where
      by : (a : Answer Run) → answer (tidy_tests F b (room first second)) reached ≡ a
          → (solving F first second a).answer ≡ is_ended v settles expands → (passes (check_tests F b) ≡ true) × (reached.end ≡ ended v)
      by (refused n i) e k = let z : ◌≡◌ {A = ℕ} 0 1 = cc in absurd (omega arith)
      by (accepted r) e k =
          let passed = accepted_passes (tidy_tests F b (room first second)) reached r e in
          ((passed-++ (check_tests F b) _ passed.0).0, ap (λ (u : Run). u.end) passed.1 ∙ (ended_by r.end r.state v k).0)

  -- A call that isn't refused reached a formula.
  pub solve_reaches : ((n i : ℕ) → (solve_call F b first second).answer ≡ is_refused n i → ⊥)
      → (f : Formula) × (settles : ℕ) × (expands : ℕ) × Reached F b first second f settles expands
  solve_reaches no_refusal = (reached.state.formula, reached.state.settles, reached.state.expands, (shown no_refusal).holds)

  counted : Shown → {n m : ℕ} → reached.state.settles ≡ n → reached.state.expands ≡ m
      → Reached F b first second reached.state.formula n m
  counted r e₁ e₂ = subst₂ (Reached F b first second reached.state.formula) e₁ e₂ r.holds

  -- Solve says true only for a sheet that is true, and false only for one that isn't.
  pub solve_ended : (v : Bool) (settles expands : ℕ) → (solve_call F b first second).answer ≡ is_ended v settles expands
      → (v ≡ truth (formula F b)) × ((f : Formula) × Reached F b first second f settles expands)
  solve_ended v settles expands h =
      let r = shown (λ n i k. let z : ◌≡◌ {A = ℕ} 0 1 = cc in omega arith) in
      let e = ended_by reached.end reached.state v (sym r.answers ∙ h) in
      (r.run_right.on_ended v e.0, (reached.state.formula, counted r e.1 e.2))

  -- Solve stops exactly where nothing can be settled and the cheapest innermost expansion doesn't fit.
  pub solve_stopped : (x settles expands : ℕ) → (solve_call F b first second).answer ≡ is_stopped x settles expands
      → (f : Formula) × Reached F b first second f settles expands × Stuck (fits F (room first second)) f x
  solve_stopped x settles expands h =
      let r = shown (λ n i k. let z : ◌≡◌ {A = ℕ} 0 1 = cc in omega arith) in
      let e = stopped_by reached.end reached.state x (sym r.answers ∙ h) in
      (reached.state.formula, counted r e.1 e.2, (r.run_right.stops x).0 e.0)

-- Trial's verdict is the truth of the sheet, and its leaves are at most 2 to the power V.
pub trial_right : (F : Format) (b : Bytes) (t : Tried) → trial_call F b ≡ accepted t
    → (t.verdict ≡ truth (formula F b)) × (t.leaves ≤ 2 ^ variables F b)
unfolding trial_call
trial_right F b t h =
    let passed = accepted_passes (check_tests F b ++ _) (trial (formula F b)) t h in
    let checked = (passed-++ (check_tests F b) _ passed.0).0 in
    let same = passed.1 in (
      ap (λ (u : Tried). u.verdict) (sym same) ∙ trial-verdict (formula F b),
      subst (λ (u : Tried). u.leaves ≤ 2 ^ variables F b) same
          (subst (λ (n : ℕ). (trial (formula F b)).leaves ≤ 2 ^ n) (accepted_variables F b checked) (trial-leaves (formula F b))),
    )
