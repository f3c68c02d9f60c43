-- The counts of Resume: of each the lower 16 bits come back, and the whole count is the one given plus what those bits are ahead of it, modulo
-- 65,536, since Solve's own counts are at most 1,024 (N13).
-- Assumes nothing.
use mathlib.Core.Path.{◌≡◌, refl, sym, ap, ◌∙◌}
use mathlib.Core.Bool.{Bool}
use Prim.Native.Nat.{ℕ, ◌+◌, ◌-◌, ◌%◌, ◌≤◌, ◌<◌}
use native.Mathlib.Omega.{arith}
use Rattle.sheet.specs.Format.{Bytes, wide, variables}
use Rattle.sheet.specs.Operations.{Solved, is_refused, is_stopped, is_ended, Solving, solve_call}
use Rattle.sheet.specs.Resume.{widened, add_to_answer, with_counts, resume_call}
use Rattle.sheet.proofs.Accepted.{accepted_within, accepted_variables}
use Rattle.sheet.proofs.Verdicts.{solve_ended, solve_stopped}
use Rattle.sheet.proofs.Resume.{widened-sheet, resume_taken}
use Rattle.packing.specs.Unpacked.{whole_count}
use Rattle.packing.specs.Unpacked.{Own}

-- a count that is at most 65,535 more than the one given
pub count_back : (given own : ℕ) → own < 65536 → whole_count given ((given + own) % 65536) ≡ given + own
count_back given own l = omega (arith, l)

module _ (started settled expanded : ℕ) (b : Bytes) (w : Bool) (first second : Bytes) where
  abbrev call : Solving
  call = resume_call started settled expanded b w first second

  abbrev run : Solving
  run = solve_call wide (widened w b) first second

  -- the sheet that Solve runs on has at most 1,024 variables
  few_variables : ((n i : ℕ) → call.answer ≡ is_refused n i → ⊥) → variables wide (widened w b) ≤ 1024
  few_variables taken =
      let ok = (widened-sheet w b (resume_taken started settled expanded b w first second taken).0).is_accepted in
      omega (arith, (accepted_within wide (widened w b) ok).few_variables, accepted_variables wide (widened w b) ok)

  added : ((n i : ℕ) → call.answer ≡ is_refused n i → ⊥) → {a : Solved} → run.answer ≡ a → call.answer ≡ add_to_answer settled expanded a
  unfolding with_counts
  added taken e =
      ap (λ (s : Solving). s.answer) (resume_taken started settled expanded b w first second taken).1 ∙ ap (add_to_answer settled expanded) e

  pub resumed_ended : (v : Bool) (n m : ℕ) → call.answer ≡ is_ended v n m → Own settled expanded n m
  unfolding add_to_answer
  resumed_ended v n m h = by run.answer refl
    where
      taken : (k i : ℕ) → call.answer ≡ is_refused k i → ⊥
      taken k i e = let z : ◌≡◌ {A = ℕ} 0 1 = cc in omega arith

      by : (a : Solved) → run.answer ≡ a → Own settled expanded n m
      by (is_refused k i) e = let t = sym (added taken e) ∙ h in let z : ◌≡◌ {A = ℕ} 0 1 = cc in absurd (omega arith)
      by (is_stopped x k l) e = let t = sym (added taken e) ∙ h in let z : ◌≡◌ {A = ℕ} 0 1 = cc in absurd (omega arith)
      by (is_ended u k l) e =
          let t = sym (added taken e) ∙ h in
          let reached = (solve_ended wide (widened w b) first second u k l e).1.1 in
          record {
            own_settled = k;
            own_expanded = l;
            settled_is = cc;
            expanded_is = cc;
            few = omega (arith, reached.counts, few_variables taken);
          }

  pub resumed_stopped : (x n m : ℕ) → call.answer ≡ is_stopped x n m → Own settled expanded n m
  unfolding add_to_answer
  resumed_stopped x n m h = by run.answer refl
    where
      taken : (k i : ℕ) → call.answer ≡ is_refused k i → ⊥
      taken k i e = let z : ◌≡◌ {A = ℕ} 0 1 = cc in omega arith

      by : (a : Solved) → run.answer ≡ a → Own settled expanded n m
      by (is_refused k i) e = let t = sym (added taken e) ∙ h in let z : ◌≡◌ {A = ℕ} 0 1 = cc in absurd (omega arith)
      by (is_ended u k l) e = let t = sym (added taken e) ∙ h in let z : ◌≡◌ {A = ℕ} 0 1 = cc in absurd (omega arith)
      by (is_stopped y k l) e =
          let t = sym (added taken e) ∙ h in
          let reached = (solve_stopped wide (widened w b) first second y k l e).1 in
          record {
            own_settled = k;
            own_expanded = l;
            settled_is = cc;
            expanded_is = cc;
            few = omega (arith, reached.counts, few_variables taken);
          }
