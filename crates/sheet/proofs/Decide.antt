-- Decide on bytes: a verdict is the truth, it is refused exactly as Solve, where Solve ends it is Solve's verdict, and a longer stack or a
-- larger budget keep it; its buffers are zeros then, and refused, no byte changes.
-- Assumes nothing.
use mathlib.Core.Path.{◌≡◌, refl, sym, ◌∙◌, ap}
use mathlib.Core.Bool.{Bool, true}
use mathlib.Core.Logic.{◌↔◌}
use Prim.Native.Nat.{ℕ, zero, suc, ◌^◌, ◌≤◌}
use native.Mathlib.Nat.{div-zero, le-div_iff_mul-le, div-mul-le_self, le_trans}
use native.Mathlib.Omega.{arith}
use lib.ListN.{length, replicate}
use Rattle.formula.specs.Truth.{truth}
use Rattle.formula.specs.Solve.{State, End, ended, stopped, Run, solve}
use Rattle.formula.specs.Decide.{Outcome, decided, no_place, spent, Decision}
use Rattle.formula.proofs.Decide.Right.{decide_right, decide_always}
use Rattle.formula.proofs.Decide.More.{decide_more, decide_ended}
use Rattle.sheet.specs.Format.{Bytes, Format, fits, variables}
use Rattle.sheet.specs.Sheet.{formula}
use Rattle.sheet.specs.Check.{Answer, refused, accepted, answer, passes, check_tests}
use Rattle.sheet.specs.Operations.{tidy_tests, is_refused, is_ended, solved, solving, solve_call}
use Rattle.sheet.specs.Trace.{room}
use Rattle.sheet.specs.Decide.{DecideAnswer, decide_refused, decide_answer, Deciding, deciding, places, decision, decide_call}
use Rattle.sheet.specs.Decide as call
use Rattle.sheet.proofs.Tests.{passed-++, answer-passes, accepted_passes, refused_alike}
use Rattle.sheet.proofs.Accepted.{accepted_within, accepted_variables}
use Rattle.sheet.proofs.Refusals.{solved-not_refused}

-- places

pub places_longer : (most len len' : ℕ) → len ≤ len' → places len most ≤ places len' most
places_longer zero len len' l = omega (arith, div-zero len, div-zero len')
places_longer (suc most) len len' l = (le-div_iff_mul-le {k = suc most} {x = places len (suc most)} {y = len'} (omega arith)).1 (le_trans (div-mul-le_self len (suc most)) l)

-- an answer is known by its parts

answer_ended : (o : Outcome) (runs : ℕ) (v : Bool) (n : ℕ) → decide_answer o runs ≡ call.decide_ended v n → (o ≡ decided v) × (runs ≡ n)
unfolding decide_answer
answer_ended (decided w) runs v n e = let same : w ≡ v = cc in (ap decided same, cc)
answer_ended no_place runs v n e = let z : ◌≡◌ {A = ℕ} 0 1 = cc in absurd (omega arith)
answer_ended spent runs v n e = let z : ◌≡◌ {A = ℕ} 0 1 = cc in absurd (omega arith)

answer-not_refused : (o : Outcome) (runs n i : ℕ) → decide_answer o runs ≡ decide_refused n i → ⊥
unfolding decide_answer
answer-not_refused (decided v) runs n i e = let z : ◌≡◌ {A = ℕ} 0 1 = cc in omega arith
answer-not_refused no_place runs n i e = let z : ◌≡◌ {A = ℕ} 0 1 = cc in omega arith
answer-not_refused spent runs n i e = let z : ◌≡◌ {A = ℕ} 0 1 = cc in omega arith

solved_ended : (e : End) (s : State) {v : Bool} {n m : ℕ} → solved e s ≡ is_ended v n m → e ≡ ended v
unfolding solved
solved_ended (ended w) s {v} k = let same : w ≡ v = cc in ap ended same
solved_ended (stopped x) s k = let z : ◌≡◌ {A = ℕ} 0 1 = cc in absurd (omega arith)

module _ (F : Format) (b : Bytes) (budget : ℕ) (first second stack : Bytes) where
  abbrev most : ℕ
  most = room first second

  abbrev found : Decision
  found = decision F b budget first second stack

  abbrev whole : Deciding
  whole = decide_call F b budget first second stack

  -- tests that pass: the search answers, and zeros are left
  pub decide_accepted : passes (tidy_tests F b most) ≡ true → whole ≡ deciding first second stack (accepted found)
  unfolding decide_call
  decide_accepted h = ap (deciding first second stack) (answer-passes (tidy_tests F b most) found h)

  -- a verdict is the search's, of a sheet that passed
  record Found (v : Bool) (n : ℕ) : Type 0 where
    passed : passes (tidy_tests F b most) ≡ true
    outcome_is : found.outcome ≡ decided v
    runs_are : found.runs ≡ n

  found_by : (v : Bool) (n : ℕ) → whole.answer ≡ call.decide_ended v n → Found v n
  unfolding decide_call deciding
  found_by v n h = by (answer (tidy_tests F b most) found) refl h
    where
      by : (a : Answer Decision) → answer (tidy_tests F b most) found ≡ a → (deciding first second stack a).answer ≡ call.decide_ended v n → Found v n
      by (refused m i) e k = let z : ◌≡◌ {A = ℕ} 0 1 = cc in absurd (omega arith)
      by (accepted d) e k =
          let p = accepted_passes (tidy_tests F b most) found d e in
          let parts = answer_ended d.outcome d.runs v n k in
          record {
            passed = p.0;
            outcome_is = ap (λ (x : Decision). x.outcome) p.1 ∙ parts.0;
            runs_are = ap (λ (x : Decision). x.runs) p.1 ∙ parts.1;
          }

  checked : passes (tidy_tests F b most) ≡ true → passes (check_tests F b) ≡ true
  unfolding tidy_tests
  checked h = (passed-++ (check_tests F b) _ h).0

  -- A verdict is the truth, after one run at least and no more than the budget and 2 to the power V.
  pub decide_verdict : (v : Bool) (n : ℕ) → whole.answer ≡ call.decide_ended v n
      → (v ≡ truth (formula F b)) × (1 ≤ n) × (n ≤ budget) × (n ≤ 2 ^ variables F b)
  decide_verdict v n h =
      let f = found_by v n h in
      let w = accepted_within F b (checked f.passed) in
      let r = decide_right (fits F most) (places (length stack) most) budget (formula F b) w.is_distinct w.is_closed in
      let power : 2 ^ length (formula F b).prefix ≡ 2 ^ variables F b
      = ap (λ (k : ℕ). 2 ^ k) (accepted_variables F b (checked f.passed)) in (
        r.is_truth v f.outcome_is,
        omega (arith, f.runs_are, r.some_run v f.outcome_is),
        omega (arith, f.runs_are, r.in_budget),
        omega (arith, f.runs_are, r.in_power, power),
      )

  -- refused exactly as Solve
  pub decide_refuses : (n i : ℕ) → (whole.answer ≡ decide_refused n i) ↔ ((solve_call F b first second).answer ≡ is_refused n i)
  unfolding decide_call deciding solve_call solving
  decide_refuses n i = (to, back)
    where
      to : whole.answer ≡ decide_refused n i → (solve_call F b first second).answer ≡ is_refused n i
      to h = by (answer (tidy_tests F b most) found) refl h
        where
          by : (a : Answer Decision) → answer (tidy_tests F b most) found ≡ a → (deciding first second stack a).answer ≡ decide_refused n i
              → (solving F first second (answer (tidy_tests F b most) (solve (fits F most) (formula F b)))).answer ≡ is_refused n i
          by (refused m j) e k =
              let alike = refused_alike (tidy_tests F b most) found (solve (fits F most) (formula F b)) (sym e) in
              let same : is_refused m j ≡ is_refused n i = cc in
              ap (λ (a : Answer Run). (solving F first second a).answer) (sym alike) ∙ same
          by (accepted d) e k = absurd (answer-not_refused d.outcome d.runs n i k)

      back : (solve_call F b first second).answer ≡ is_refused n i → whole.answer ≡ decide_refused n i
      back h = by (answer (tidy_tests F b most) (solve (fits F most) (formula F b))) refl h
        where
          by : (a : Answer Run) → answer (tidy_tests F b most) (solve (fits F most) (formula F b)) ≡ a
              → (solving F first second a).answer ≡ is_refused n i
              → (deciding first second stack (answer (tidy_tests F b most) found)).answer ≡ decide_refused n i
          by (refused m j) e k =
              let alike = refused_alike (tidy_tests F b most) (solve (fits F most) (formula F b)) found (sym e) in
              let same : decide_refused m j ≡ decide_refused n i = cc in
              ap (λ (a : Answer Decision). (deciding first second stack a).answer) (sym alike) ∙ same
          by (accepted r) e k = absurd (solved-not_refused r.end r.state k)

  -- refusing alters no byte, and an answer leaves zeros
  pub decide_kept : (n i : ℕ) → whole.answer ≡ decide_refused n i → (whole.first ≡ first) × (whole.second ≡ second) × (whole.stack ≡ stack)
  unfolding decide_call deciding
  decide_kept n i h = by (answer (tidy_tests F b most) found) h
    where
      by : (a : Answer Decision) → (deciding first second stack a).answer ≡ decide_refused n i
          → ((deciding first second stack a).first ≡ first) × ((deciding first second stack a).second ≡ second) ×
          ((deciding first second stack a).stack ≡ stack)
      by (refused m j) k = (refl, refl, refl)
      by (accepted d) k = absurd (answer-not_refused d.outcome d.runs n i k)

  pub decide_cleared : ((n i : ℕ) → whole.answer ≡ decide_refused n i → ⊥)
      → (whole.first ≡ replicate (length first) 0) × (whole.second ≡ replicate (length second) 0) ×
      (whole.stack ≡ replicate (length stack) 0)
  unfolding decide_call deciding
  decide_cleared no_refusal = by (answer (tidy_tests F b most) found) no_refusal
    where
      by : (a : Answer Decision) → ((n i : ℕ) → (deciding first second stack a).answer ≡ decide_refused n i → ⊥)
          → ((deciding first second stack a).first ≡ replicate (length first) 0) ×
          ((deciding first second stack a).second ≡ replicate (length second) 0) ×
          ((deciding first second stack a).stack ≡ replicate (length stack) 0)
      by (refused m j) k = absurd (k m j refl)
      by (accepted d) k = (refl, refl, refl)

  -- where Solve ends, its verdict after one run
  pub decide_solves : (v : Bool) (settles expands : ℕ) → (solve_call F b first second).answer ≡ is_ended v settles expands → 1 ≤ budget
      → whole.answer ≡ call.decide_ended v 1
  unfolding decide_call deciding decide_answer solve_call solving
  decide_solves v settles expands h l = by (answer (tidy_tests F b most) (solve (fits F most) (formula F b))) refl h
    where
      by : (a : Answer Run) → answer (tidy_tests F b most) (solve (fits F most) (formula F b)) ≡ a
          → (solving F first second a).answer ≡ is_ended v settles expands → whole.answer ≡ call.decide_ended v 1
      by (refused m j) e k = let z : ◌≡◌ {A = ℕ} 0 1 = cc in absurd (omega arith)
      by (accepted r) e k =
          let p = accepted_passes (tidy_tests F b most) (solve (fits F most) (formula F b)) r e in
          let stop = ap (λ (u : Run). u.end) p.1 ∙ solved_ended r.end r.state k in
          ap (λ (d : Deciding). d.answer) (decide_accepted p.0) ∙
          ap (λ (d : Decision). decide_answer d.outcome d.runs)
          (decide_ended (fits F most) (places (length stack) most) budget (formula F b) v l stop)

  -- a place less than there are variables and a budget of 2 to the power V always decide
  pub decide_decides : passes (tidy_tests F b most) ≡ true → variables F b ≤ suc (places (length stack) most) → 2 ^ variables F b ≤ budget
      → (n : ℕ) × (whole.answer ≡ call.decide_ended (truth (formula F b)) n)
  unfolding deciding decide_answer
  decide_decides h l k =
      let w = accepted_within F b (checked h) in
      let count = accepted_variables F b (checked h) in
      let power : 2 ^ length (formula F b).prefix ≡ 2 ^ variables F b = ap (λ (n : ℕ). 2 ^ n) count in
      let e = decide_always (fits F most) (places (length stack) most) budget (formula F b) w.is_distinct w.is_closed
      (omega (arith, l, count)) (omega (arith, k, power)) in
      (found.runs, ap (λ (d : Deciding). d.answer) (decide_accepted h) ∙ ap (λ (o : Outcome). decide_answer o found.runs) e)

  -- a longer stack or a larger budget keep a verdict and its runs
  pub decide_longer : (budget' : ℕ) (stack' : Bytes) → budget ≤ budget' → length stack ≤ length stack' → (v : Bool) (n : ℕ)
      → whole.answer ≡ call.decide_ended v n → (decide_call F b budget' first second stack').answer ≡ call.decide_ended v n
  unfolding decide_call deciding decide_answer
  decide_longer budget' stack' l k v n h =
      let f = found_by v n h in
      let more = decide_more (fits F most) (places (length stack) most) (places (length stack') most) budget budget' (formula F b)
      (places_longer most (length stack) (length stack') k) l v f.outcome_is in
      ap (λ (a : Answer Decision). (deciding first second stack' a).answer)
      (answer-passes (tidy_tests F b most) (decision F b budget' first second stack') f.passed) ∙
      ap (λ (d : Decision). decide_answer d.outcome d.runs) more ∙
      ap (λ (o : Outcome). decide_answer o found.runs) f.outcome_is ∙ ap (λ (m : ℕ). call.decide_ended v m) f.runs_are
