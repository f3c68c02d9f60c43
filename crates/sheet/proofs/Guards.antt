-- Guards on sheets: what an answer shows, in which order it refuses, and that a refusal alters nothing (N10).
-- Assumes nothing.
use mathlib.Core.Path.{◌≡◌, refl, sym, ◌∙◌, ap, ap₂, subst}
use mathlib.Core.Bool.{Bool, true, false, not, cond}
use mathlib.Core.List.{List, [], ◌∷◌}
use Prim.Native.Nat.{ℕ, ◌-◌, ◌<◌}
use native.Mathlib.Omega.{arith}
use lib.Dec.{ltb}
use lib.ListN.{length, take, replicate}
use lib.Seq.{take-append_seam}
use borrow.Author.Tests.{not-false, ltb-false, le-ltb}
use Rattle.formula.specs.Tree.{Prefix, Forest, Formula, rows, count}
use Rattle.formula.specs.Truth.{truth}
use Rattle.formula.specs.Solve.{End, ended, stopped, Run, solve}
use Rattle.formula.specs.Guards.{is_and, guards, conjoined, clashing, Guarded, holds, stuck, clash, after_run, guarded, weakened, Fewer}
use Rattle.formula.proofs.Guards.{and-formula, closed_fewer, guarded_right}
use Rattle.sheet.specs.Format.{Bytes, Format, fits}
use Rattle.sheet.specs.Sheet.{formula, sheet}
use Rattle.sheet.specs.Check.{Answer, refused, accepted, Test, test, answer, passes, check_tests}
use Rattle.sheet.specs.Operations.{padded, tidy_tests, solved, solving, solve_call}
use Rattle.sheet.specs.Limits.{Sound, Within}
use Rattle.sheet.specs.Trace.{room}
use Rattle.sheet.specs.Guards.{guards_refused, guards_kept, Guarding, guards_tests, guards_answer, guards_output, guarding, least_room, guards_call, Starts, Clashing}
use Rattle.sheet.proofs.Tests.{passed-∷, passed-++, answer-++, accepted_passes}
use Rattle.sheet.proofs.RoundTrip.{formula-sheet, passes-sheet}
use Rattle.sheet.proofs.Accepted.{accepted_within}

-- fewer guards stay within the limits
pub within_fewer : (F : Format) (p : Prefix) {us ts : Forest} → Fewer us ts → Within F (conjoined p ts) → Within F (conjoined p us)
unfolding rows
within_fewer F p f w =
    record {
      few_variables = w.few_variables;
      few_nodes = omega (arith, f.no_more_rows, w.few_nodes);
      is_numbered = w.is_numbered;
      is_distinct = w.is_distinct;
      is_closed = closed_fewer p f w.is_closed;
    }

module _ (F : Format) (b out first second : Bytes) where
  abbrev tests : List Test
  tests = guards_tests F b (least_room out first second)

  abbrev found : Guarded
  found = guarded (fits F (room first second)) (formula F b)

  initial : Run
  initial = solve (fits F (room first second)) (formula F b)

  -- an answer is a refusal or what was found
  refused_or-found : (w : Guarding) → guarding F out first second (answer tests found) ≡ w → ((n i : ℕ) → w.answer ≡ guards_refused n i → ⊥)
      → (passes tests ≡ true) × (w ≡ guarding F out first second (accepted found))
  unfolding guarding
  refused_or-found w e unrefused = by (answer tests found) refl e
    where
      by : (a : Answer Guarded) → answer tests found ≡ a → guarding F out first second a ≡ w
          → (passes tests ≡ true) × (w ≡ guarding F out first second (accepted found))
      by (refused n i) h k = absurd (unrefused n i (ap (λ (g : Guarding). g.answer) (sym k)))
      by (accepted g) h k =
          let p = accepted_passes tests found g h in
          (p.0, sym k ∙ ap (λ (x : Guarded). guarding F out first second (accepted x)) (sym p.1))

  -- refusing alters no byte
  pub guards_refused_keeps : (n i : ℕ) → (guards_call F b out first second).answer ≡ guards_refused n i
      → ((guards_call F b out first second).output ≡ out) × ((guards_call F b out first second).first ≡ first) ×
      ((guards_call F b out first second).second ≡ second)
  unfolding guards_call guarding guards_answer
  guards_refused_keeps n i h = by (answer tests found) h
    where
      told : (g : Guarded) → guards_answer F g ≡ guards_refused n i → ⊥
      told (holds s) k = let z : ◌≡◌ {A = ℕ} 0 1 = cc in omega arith
      told (stuck x s) k = let z : ◌≡◌ {A = ℕ} 0 1 = cc in omega arith
      told (clash g m) k = let z : ◌≡◌ {A = ℕ} 0 1 = cc in omega arith

      by : (a : Answer Guarded) → (guarding F out first second a).answer ≡ guards_refused n i
          → ((guarding F out first second a).output ≡ out) × ((guarding F out first second a).first ≡ first) ×
          ((guarding F out first second a).second ≡ second)
      by (refused m j) k = (refl, refl, refl)
      by (accepted g) k = absurd (told g k)

  -- 23 comes before 13, whatever the buffers
  pub guards_no_and : passes (check_tests F b) ≡ true → is_and (formula F b).matrix ≡ false
      → (guards_call F b out first second).answer ≡ guards_refused 23 0
  unfolding guards_call guarding guards_tests answer
  guards_no_and c h =
      ap (λ (a : Answer Guarded). (guarding F out first second a).answer)
      (answer-++ (check_tests F b) _ found c ∙ ap (λ (m : Bool). cond (not m) (refused 23 0) (answer (test (ltb (least_room out first second) (length b)) 13 0 ∷ []) found)) h)

  -- the sheet written is accepted and false, and where no run stopped each of its children is needed
  pub guards_right : Sound F → (n stops : ℕ) → (guards_call F b out first second).answer ≡ guards_kept n stops
      → Clashing F b (take n (guards_call F b out first second).output) stops
  unfolding guards_call guarding guards_answer guards_output guards_tests padded is_and
  guards_right sound n stops h =
      let q = refused_or-found (guards_call F b out first second) refl (λ m i k. let z : ◌≡◌ {A = ℕ} 0 1 = cc in omega arith) in
      let checks = passed-++ (check_tests F b) _ q.0 in
      let root = not-false (is_and (formula F b).matrix) (passed-∷ _ _ checks.1).0 in
      by found refl checks.0 root (ap (λ (g : Guarding). g.answer) (sym q.1) ∙ h) (ap (λ (g : Guarding). g.output) q.1)
    where
      f : Formula
      f = formula F b

      by : (x : Guarded) → found ≡ x → passes (check_tests F b) ≡ true → is_and f.matrix ≡ true → guards_answer F x ≡ guards_kept n stops
          → {new : Bytes} → new ≡ guards_output F (length out) x → Clashing F b (take n new) stops
      by (holds s) e c a k o = let z : ◌≡◌ {A = ℕ} 0 1 = cc in absurd (omega arith)
      by (stuck x s) e c a k o = let z : ◌≡◌ {A = ℕ} 0 1 = cc in absurd (omega arith)
      by (clash g m) e c a k {new} o =
          let w = accepted_within F b c in
          let bl = guarded_right (fits F (room first second)) f w.is_distinct w.is_closed a g m e in
          let long : length (sheet F g) ≡ n = cc in
          let counted : m ≡ stops = cc in
          let within : Within F g
          = subst (Within F) (sym bl.is_conjunction) (within_fewer F f.prefix bl.some_guards (subst (Within F) (and-formula f a) w)) in
          let back : formula F (sheet F g) ≡ g = formula-sheet F sound g within in
          let front : take n new ≡ sheet F g
          = ap₂ take (sym long) o ∙ take-append_seam (sheet F g) (replicate (length out - length (sheet F g)) 0) in
          subst (λ (d : Bytes). Clashing F b d stops) (sym front)
          (record {
            is_accepted = passes-sheet F sound g within;
            same_prefix = ap (λ (x : Formula). x.prefix) (back ∙ bl.is_conjunction);
            root_is_and = ap (λ (x : Formula). is_and x.matrix) (back ∙ bl.is_conjunction);
            is_false = ap truth back ∙ bl.is_false;
            each_needed =
                λ z. subst (λ (x : Formula). (i : ℕ) → i < count (guards x.matrix) → truth (weakened i x) ≡ true) (sym back)
                (bl.each_needed (counted ∙ z));
          })

  initial-run : passes tests ≡ true → (solve_call F b first second).answer ≡ solved initial.end initial.state
  unfolding solve_call solving guards_tests tidy_tests initial answer
  initial-run h =
      let checks = passed-++ (check_tests F b) _ h in
      let long = ltb-false (least_room out first second) (length b) (passed-∷ _ _ (passed-∷ _ _ checks.1).1).0 in
      ap (λ (a : Answer Run). (solving F first second a).answer)
      (answer-++ (check_tests F b) _ initial checks.0 ∙
      ap (λ (m : Bool). cond m (refused 13 0) (accepted initial)) (le-ltb (room first second) (length b) (omega arith)))

  -- an initial run of Solve that stops or says true is itself the answer; else it said false
  pub guards-initial : Starts (guards_call F b out first second).answer (solve_call F b first second).answer
  unfolding guards_call guarding guards_answer guarded after_run solved initial
  guards-initial = by (answer tests found) refl
    where
      told : (e : End) → (solve_call F b first second).answer ≡ solved e initial.state
          → Starts (guards_answer F (after_run e initial.state (formula F b).prefix (clashing (fits F (room first second)) (formula F b)))) (solve_call F b first second).answer
      told (ended true) k = k
      told (ended false) k = (initial.state.settles, initial.state.expands, k)
      told (stopped x) k = k

      by : (a : Answer Guarded) → answer tests found ≡ a → Starts (guarding F out first second a).answer (solve_call F b first second).answer
      by (refused n i) h = tt
      by (accepted g) h =
          let p = accepted_passes tests found g h in
          subst (λ (x : Guarded). Starts (guards_answer F x) (solve_call F b first second).answer) p.1
          (told initial.end (initial-run p.0))
