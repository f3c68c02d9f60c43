-- Every answer has values in their ranges, so that taking it apart gives it back.
-- Assumes nothing.
use mathlib.Core.Path.{◌≡◌, refl, subst}
use mathlib.Core.Bool.{Bool, true, false, not, cond}
use mathlib.Core.Logic.{◌⊎◌, inl, inr}
use mathlib.Core.List.{List, [], ◌∷◌}
use Prim.Native.Nat.{ℕ, ◌^◌, ◌≤◌, ◌<◌}
use native.Mathlib.Omega.{arith}
use lib.Dec.{eqb, ltb}
use lib.ListN.{length}
use Rattle.formula.specs.Decide.{Outcome, decided, no_place, spent, Decision}
use Rattle.formula.specs.Join.{Answer as Known, join_answers}
use Rattle.formula.proofs.Decide.Right.{decide_right}
use Rattle.sheet.specs.Format as sheet
use Rattle.sheet.specs.Format.{Bytes, fits, variables}
use Rattle.sheet.specs.Sheet.{formula}
use Rattle.sheet.specs.Refusals.{too_many_values, wrong_answers, bad_answer}
use Rattle.sheet.specs.Check.{Answer, refused, accepted, Test, test, answer, passes, check_tests, IsKnown, last_place}
use Rattle.sheet.specs.Operations.{tidy_tests}
use Rattle.sheet.specs.Trace.{room}
use Rattle.sheet.specs.Decide.{decide_answer, deciding, places, decision, decide_call}
use Rattle.sheet.specs.Split.{split_tests, split_call}
use Rattle.sheet.specs.Join.{answers_of, are_answers, join_tests, join_call}
use Rattle.sheet.proofs.Tests.{passed-++, accepted_passes}
use Rattle.sheet.proofs.Known.{refused_known, tidy-known, tidy-place, check-or_own, split-known, split-place}
use Rattle.sheet.proofs.Truthful.{split_truthful}
use Rattle.sheet.proofs.Accepted.{accepted_within}
use Rattle.rows.specs.Formats.{format_of}
use Rattle.rows.specs.declared.Format.{Format}
use Rattle.rows.proofs.Limits.{sound}
use Rattle.packing.specs.Unpacked.{Tellable, FitsWritten}
use Rattle.packing.proofs.Ranges.{told, written_fits}
use Rattle.capi_decide.specs.Returned.{allowed}
use Rattle.capi_decide.specs.Unpacked.{FitsDecided, FitsJoined}

-- Decide

outcome_fits : (o : Outcome) (runs : ℕ) → runs < 4294967296 → FitsDecided (decide_answer o runs)
unfolding decide_answer
outcome_fits (decided v) runs l = l
outcome_fits no_place runs l = l
outcome_fits spent runs l = l

module _ (f : Format) (b : Bytes) (budget : ℕ) (first second stack : Bytes) where
  abbrev F : sheet.Format
  F = format_of f

  abbrev most : ℕ
  most = room first second

  abbrev found : Decision
  found = decision F b (allowed budget) first second stack

  -- the runs are within the budget, and this within 32 bits
  pub decide-fits : FitsDecided (decide_call F b (allowed budget) first second stack).answer
  unfolding decide_call deciding tidy_tests
  decide-fits = by (answer (tidy_tests F b most) found) refl
    where
      by : (a : Answer Decision) → answer (tidy_tests F b most) found ≡ a → FitsDecided (deciding first second stack a).answer
      by (refused n i) e = told f (refused_known (tidy_tests F b most) found (tidy-known F b most) e) (tidy-place F b found most e)
      by (accepted d) e =
          let p = accepted_passes (tidy_tests F b most) found d e in
          let w = accepted_within F b (passed-++ (check_tests F b) _ p.0).0 in
          let right = decide_right (fits F most) (places (length stack) most) (allowed budget) (formula F b) w.is_distinct w.is_closed in
          let few : found.runs < 4294967296 = omega (arith, right.in_budget) in
          outcome_fits d.outcome d.runs (subst (λ (x : Decision). x.runs < 4294967296) p.1 few)

-- Join: 22, 28 and 29, which name no place
own_told : {A : Type 0} (a : A) {n i : ℕ} (many count good : Bool)
    → cond many (refused 22 0) (cond count (refused 28 0) (cond good (refused 29 0) (accepted a))) ≡ refused n i → Tellable n i
own_told a {n} {i} true count good e =
    let number : ◌≡◌ {A = ℕ} 22 n = cc in
    let place : ◌≡◌ {A = ℕ} 0 i = cc in
    record { is_number = omega (arith, number); small_number = omega (arith, number); small_place = omega (arith, place) }
own_told a {n} {i} false true good e =
    let number : ◌≡◌ {A = ℕ} 28 n = cc in
    let place : ◌≡◌ {A = ℕ} 0 i = cc in
    record { is_number = omega (arith, number); small_number = omega (arith, number); small_place = omega (arith, place) }
own_told a {n} {i} false false true e =
    let number : ◌≡◌ {A = ℕ} 29 n = cc in
    let place : ◌≡◌ {A = ℕ} 0 i = cc in
    record { is_number = omega (arith, number); small_number = omega (arith, number); small_place = omega (arith, place) }
own_told a false false false e = let z : ◌≡◌ {A = ℕ} 0 1 = cc in absurd (omega arith)

module _ (f : Format) (b : Bytes) (k : ℕ) (xs : Bytes) where
  join_refusals : {n i : ℕ} → join_call (format_of f) b k xs ≡ refused n i → Tellable n i
  unfolding join_call join_tests answer
  join_refusals {n} {i} e = by (check-or_own (format_of f) b _ (join_answers k (formula (format_of f) b) (answers_of xs)) e)
    where
      own : List Test
      own =
          test (ltb (variables (format_of f) b) k) too_many_values 0 ∷
          test (not (eqb (length xs) (2 ^ k))) wrong_answers 0 ∷
          test (not (are_answers xs)) bad_answer 0 ∷
          []

      by : (IsKnown n × (i ≤ last_place (format_of f))) ⊎ ((passes (check_tests (format_of f) b) ≡ true) × (answer own (join_answers k (formula (format_of f) b) (answers_of xs)) ≡ refused n i))
          → Tellable n i
      by (inl p) = told f p.0 p.1
      by (inr p) = own_told _ (ltb (variables (format_of f) b) k) (not (eqb (length xs) (2 ^ k))) (not (are_answers xs)) p.1

  pub join-fits : FitsJoined (join_call (format_of f) b k xs)
  join-fits = by (join_call (format_of f) b k xs) refl
    where
      by : (a : Answer Known) → join_call (format_of f) b k xs ≡ a → FitsJoined a
      by (refused n i) e = join_refusals e
      by (accepted a) e = tt

-- Split
pub split-fits : (f : Format) (b vs out : Bytes) → FitsWritten (split_call (format_of f) b vs out).answer
unfolding split_call
split-fits f b vs out =
    written_fits f f (split_tests (format_of f) b vs (length out)) _ out (split-known (format_of f) b vs (length out))
    (λ n i e. split-place (format_of f) b _ vs (length out) e) (split_truthful (format_of f) (sound f) b vs out refl)
