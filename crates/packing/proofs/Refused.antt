-- The refusals of Solve and Resume have the documents' numbers.
-- Assumes nothing.
use mathlib.Core.Path.{◌≡◌, refl, ap, ◌∙◌, subst}
use mathlib.Core.Bool.{Bool}
use Prim.Native.Nat.{ℕ}
use native.Mathlib.Omega.{arith}
use Rattle.formula.specs.Solve.{Run, solve}
use Rattle.sheet.specs.Format.{Bytes, Format, wide, fits}
use Rattle.sheet.specs.Sheet.{formula}
use Rattle.sheet.specs.Check.{Answer, refused, accepted, answer, IsKnown}
use Rattle.sheet.specs.Operations.{tidy_tests, Solved, is_refused, is_stopped, is_ended, Solving, solving, solve_call}
use Rattle.sheet.specs.Trace.{room}
use Rattle.sheet.specs.Resume.{widened, add_to_answer, with_counts, resuming, resume_tests, resume_call}
use Rattle.sheet.proofs.Tests.{accepted_passes}
use Rattle.sheet.proofs.Known.{refused_known, tidy-known, resume_known}
use Rattle.sheet.proofs.Refusals.{solved-not_refused}

pub solve-numbers : (F : Format) (b first second : Bytes) (n i : ℕ) → (solve_call F b first second).answer ≡ is_refused n i → IsKnown n
unfolding solve_call solving
solve-numbers F b first second n i h = by (answer (tidy_tests F b (room first second)) (solve (fits F (room first second)) (formula F b))) refl h
  where
    by : (a : Answer Run) → answer (tidy_tests F b (room first second)) (solve (fits F (room first second)) (formula F b)) ≡ a
        → (solving F first second a).answer ≡ is_refused n i → IsKnown n
    by (refused m j) e k =
        let same : m ≡ n = cc in
        subst IsKnown same (refused_known (tidy_tests F b (room first second)) _ (tidy-known F b (room first second)) e)
    by (accepted r) e k = absurd (solved-not_refused r.end r.state k)

added_refused : (s t : ℕ) (r : Solved) {n i : ℕ} → add_to_answer s t r ≡ is_refused n i → r ≡ is_refused n i
unfolding add_to_answer
added_refused s t (is_refused m j) e = e
added_refused s t (is_stopped x k l) e = let z : ◌≡◌ {A = ℕ} 0 1 = cc in absurd (omega arith)
added_refused s t (is_ended u k l) e = let z : ◌≡◌ {A = ℕ} 0 1 = cc in absurd (omega arith)

pub resume_numbers : (started settled expanded : ℕ) (b : Bytes) (w : Bool) (first second : Bytes) (n i : ℕ)
    → (resume_call started settled expanded b w first second).answer ≡ is_refused n i → IsKnown n
unfolding resume_call resuming with_counts
resume_numbers started settled expanded b w first second n i h =
    by (answer (resume_tests started settled expanded b w (room first second)) (with_counts settled expanded (solve_call wide (widened w b) first second))) refl h
  where
    by : (a : Answer Solving)
        → answer (resume_tests started settled expanded b w (room first second)) (with_counts settled expanded (solve_call wide (widened w b) first second)) ≡ a
        → (resuming first second a).answer ≡ is_refused n i → IsKnown n
    by (refused m j) e k =
        let same : m ≡ n = cc in
        subst IsKnown same (refused_known (resume_tests started settled expanded b w (room first second)) _ (resume_known started settled expanded b w (room first second)) e)
    by (accepted s) e k =
        let p = accepted_passes (resume_tests started settled expanded b w (room first second)) _ s e in
        solve-numbers wide (widened w b) first second n i
        (added_refused settled expanded _ (ap (λ (x : Solving). x.answer) p.1 ∙ k))
