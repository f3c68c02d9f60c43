-- A list of steps: its records and the sheet held by place, outputs of equal length, and demand 3.
-- Assumes nothing.
use mathlib.Core.Path.{◌≡◌, refl, sym, ◌∙◌, ap}
use mathlib.Core.Bool.{true, false, not, cond}
use mathlib.Core.Option
use mathlib.Core.List.{List, [], ◌∷◌, ◌++◌}
use Prim.Native.Nat.{ℕ, zero, suc, ◌+◌, ◌-◌, ◌≤◌, ◌<◌, min}
use native.Mathlib.Omega.{arith}
use native.Mathlib.Nat.{zero-add, add-zero}
use lib.Dec.{ltb}
use lib.ListN.{length, get_or, take, replicate, length-append}
use lib.Seq.{take-append_seam, take-length}
use borrow.Author.Tests.{le-ltb}
use Rattle.formula.specs.Tidy.{is_tidy}
use Rattle.formula.specs.Settle.{may_settle, settled}
use Rattle.formula.specs.Expand.{innermost, expanded}
use Rattle.formula.specs.Solve.{is_some}
use Rattle.sheet.specs.Format.{Bytes, Format, sheet_length, variables, nodes}
use Rattle.sheet.specs.Sheet.{formula, sheet}
use Rattle.sheet.specs.Check.{Answer, refused, accepted, Test, test, answer, passes, Sizes, check_tests, check}
use Rattle.sheet.specs.Operations.{Written, padded, output_after, write, tidy_and_bound_tests, settle_tests, settle_call, quote_tests, raw_room_test, expand_tests, expand_call, tidy_tests}
use Rattle.sheet.specs.Calls.{Call, perform, Held, held_after, perform_all, held, none_outer}
use Rattle.sheet.specs.Steps.{Operation, settling, expanding, Step, single, call_of, calls, after, fill, filled, given, reached}
use Rattle.sheet.specs.Steps.{Listed, listed, steps_call, acceptance, acceptances, StepsDemand3}
use Rattle.sheet.specs.Limits.{Sound}
use Rattle.sheet.proofs.Tests.{passed-++, answer-++, accepted_passes, refused_first}
use Rattle.sheet.proofs.Calls.{front_written, demand_3, demand_3_counts}
use Rattle.sheet.specs.Steps.{nine}

-- by place

pub length-filled : (F : Format) (n : ℕ) (ss : List Step) (h : Held) → length (filled F n ss h) ≡ length ss
unfolding filled
length-filled F n [] h = refl
length-filled F n (s ∷ ss) h = ap suc (length-filled F n ss _)

-- what a call leaves as the sheet held depends on the sheet held alone
after-sheet : (F : Format) (c : Call) (h : Held) → (after F c h).sheet ≡ (after F c (given h.sheet)).sheet
unfolding after held_after
after-sheet F c h = by (perform F c h.sheet).answer
  where
    by : (a : Answer ℕ)
        → (held_after h a (perform F c h.sheet).output).sheet ≡ (held_after (given h.sheet) a (perform F c h.sheet).output).sheet
    by (refused n i) = refl
    by (accepted n) = refl

before : Format → ℕ → List Step → Held → ℕ → Held
before F n ss h i = perform_all F (calls n (take i ss)) h

filled_at : (F : Format) (n : ℕ) (ss : List Step) (h : Held) (i : ℕ) (d : Step) → i < length ss
    → get_or (filled F n ss h) i d ≡ fill F n (get_or ss i d) (before F n ss h i).sheet
unfolding filled calls perform_all before after
filled_at F n [] h i d l = absurd (omega arith)
filled_at F n (s ∷ ss) h zero d l = refl
filled_at F n (s ∷ ss) h (suc i) d l = filled_at F n ss (after F (call_of n s) h) i d (omega arith)

before-next : (F : Format) (n : ℕ) (ss : List Step) (h : Held) (i : ℕ) (d : Step) → i < length ss
    → before F n ss h (suc i) ≡ after F (call_of n (get_or ss i d)) (before F n ss h i)
unfolding calls perform_all before after
before-next F n [] h i d l = absurd (omega arith)
before-next F n (s ∷ ss) h zero d l = refl
before-next F n (s ∷ ss) h (suc i) d l = before-next F n ss (after F (call_of n s) h) i d (omega arith)

-- step i on the sheet held before it
pub fill_at : (F : Format) (n : ℕ) (ss : List Step) (b : Bytes) (i : ℕ) (d : Step) → i < length ss
    → get_or (filled F n ss (given b)) i d ≡ fill F n (get_or ss i d) (reached F n ss b i)
unfolding reached held before
fill_at F n ss b i d l = filled_at F n ss (given b) i d l

pub reached-next : (F : Format) (n : ℕ) (ss : List Step) (b : Bytes) (i : ℕ) (d : Step) → i < length ss
    → reached F n ss b (suc i) ≡ (after F (call_of n (get_or ss i d)) (given (reached F n ss b i))).sheet
unfolding reached held before
reached-next F n ss b i d l =
    ap (λ (h : Held). h.sheet) (before-next F n ss (given b) i d l) ∙ after-sheet F (call_of n (get_or ss i d)) (before F n ss (given b) i)

-- with no step left it is the last
pub reached-last : (F : Format) (n : ℕ) (ss : List Step) (b : Bytes) → reached F n ss b (length ss) ≡ (held F b (calls n ss)).sheet
unfolding reached
reached-last F n ss b = ap (λ (l : List Step). (held F b (calls n l)).sheet) (take-length ss)

-- outputs of equal length

held_with : Held → Answer ℕ → Bytes → Held
held_with h (refused n i) new = h
held_with h (accepted n) new = record { sheet = new; accepted_calls = suc h.accepted_calls }

-- what an operation that writes a sheet leaves as the sheet held, without its output
held_written : (h : Held) (tests : List Test) (new out : Bytes)
    → held_after h (write tests new out).answer (write tests new out).output ≡ held_with h (answer tests (length new)) new
unfolding write held_after held_with
held_written h tests new out = by (answer tests (length new)) refl
  where
    by : (a : Answer ℕ) → answer tests (length new) ≡ a → held_after h a (write tests new out).output ≡ held_with h a new
    by (refused n i) e = refl
    by (accepted n) e =
        ap (λ (s : Bytes). record { sheet = s; accepted_calls = suc h.accepted_calls }) (front_written tests new out n e).1

-- a single call writes by its tests, which ask for the output's length alone
tests_of : Operation → Format → Bytes → ℕ → ℕ → List Test
tests_of settling F b x n = settle_tests F b x n
tests_of expanding F b x n = expand_tests F b x n

new-of : Operation → Format → Bytes → ℕ → Bytes
new-of settling F b x = sheet F (settled x (Option.get_or (may_settle x (formula F b)) false) (formula F b))
new-of expanding F b x = sheet F (expanded x (formula F b))

written_by : (o : Operation) (F : Format) (b : Bytes) (x : ℕ) (out : Bytes)
    → perform F (single o x out) b ≡ write (tests_of o F b x (length out)) (new-of o F b x) out
unfolding perform settle_call expand_call tests_of new-of
written_by settling F b x out = refl
written_by expanding F b x out = refl

module _ (F : Format) (o : Operation) (x : ℕ) (out other : Bytes) (e : length out ≡ length other) where
  pub same_answer : (b : Bytes) → (perform F (single o x out) b).answer ≡ (perform F (single o x other) b).answer
  unfolding write
  same_answer b =
      ap (λ (w : Written). w.answer) (written_by o F b x out) ∙
      ap (λ (n : ℕ). answer (tests_of o F b x n) (length (new-of o F b x))) e ∙ sym (ap (λ (w : Written). w.answer) (written_by o F b x other))

  pub same_held : (h : Held) → after F (single o x out) h ≡ after F (single o x other) h
  unfolding after
  same_held h =
      let b = h.sheet in
      let holds : Written → Held = λ w. held_after h w.answer w.output in
      ap holds (written_by o F b x out) ∙ held_written h (tests_of o F b x (length out)) (new-of o F b x) out ∙
      ap (λ (n : ℕ). held_with h (answer (tests_of o F b x n) (length (new-of o F b x))) (new-of o F b x)) e ∙
      sym (held_written h (tests_of o F b x (length other)) (new-of o F b x) other) ∙ sym (ap holds (written_by o F b x other))

-- an accepted sheet is no longer than its output
pub accepted_short : (F : Format) (o : Operation) (x : ℕ) (out b : Bytes) (n : ℕ) → (perform F (single o x out) b).answer ≡ accepted n
    → length (perform F (single o x out) b).output ≡ length out → n ≤ length out
unfolding write output_after padded
accepted_short F o x out b n e l =
    let tests = tests_of o F b x (length out) in
    let new = new-of o F b x in
    let is = written_by o F b x out in
    let told : answer tests (length new) ≡ accepted n = sym (ap (λ (w : Written). w.answer) is) ∙ e in
    let size = (accepted_passes tests (length new) n told).1 in
    let whole : length (new ++ replicate (length out - length new) 0) ≡ length out
    = ap (λ (a : Answer ℕ). length (output_after a new out)) (sym told) ∙ sym (ap (λ (w : Written). length w.output) is) ∙ l in
    omega (arith, size, sym (length-append new (replicate (length out - length new) 0)) ∙ whole)

-- a sheet that isn't tidy

module _ (F : Format) (b : Bytes) (checked : passes (check_tests F b) ≡ true) (untidy : is_tidy (formula F b).matrix ≡ false) where
  first_tests : (x : ℕ) → nine F b ≡ answer (check_tests F b ++ tidy_and_bound_tests F b x) x
  unfolding answer tidy_and_bound_tests nine
  first_tests x = rw (answer-++ (check_tests F b) (tidy_and_bound_tests F b x) x checked, untidy) refl

  nine_tests : (o : Operation) (x n k : ℕ) → nine F b ≡ answer (tests_of o F b x n) k
  unfolding tests_of settle_tests expand_tests quote_tests nine
  nine_tests settling x n k =
      refused_first (check_tests F b ++ tidy_and_bound_tests F b x)
      (test (not (is_some (may_settle x (formula F b)))) 12 0 ∷ test (ltb n (sheet_length F (variables F b - 1) (nodes F b))) 13 0 ∷ []) x k (first_tests x)
  nine_tests expanding x n k =
      refused_first (quote_tests F b x) (raw_room_test F b x n ∷ []) x k
      (refused_first (check_tests F b ++ tidy_and_bound_tests F b x) (test (not (innermost x (formula F b))) 11 0 ∷ []) x x (first_tests x))

  untidy_answer : (o : Operation) (x : ℕ) (out : Bytes) → (perform F (single o x out) b).answer ≡ nine F b
  unfolding write
  untidy_answer o x out = ap (λ (w : Written). w.answer) (written_by o F b x out) ∙ sym (nine_tests o x (length out) (length (new-of o F b x)))

  untidy_stays : (n : ℕ) (s : Step) → after F (call_of n s) (given b) ≡ given b
  unfolding after held_after nine
  untidy_stays n s =
      ap (λ (a : Answer ℕ). held_after (given b) a (perform F (call_of n s) b).output) (untidy_answer s.operation s.variable (replicate n 0))

  untidy_end : (n : ℕ) (ss : List Step) → perform_all F (calls n ss) (given b) ≡ given b
  unfolding perform_all calls after
  untidy_end n [] = refl
  untidy_end n (s ∷ ss) = ap (perform_all F (calls n ss)) (untidy_stays n s) ∙ untidy_end n ss

  pub untidy_held : (n : ℕ) (ss : List Step) → (held F b (calls n ss)).sheet ≡ b
  unfolding held
  untidy_held n ss = ap (λ (h : Held). h.sheet) (untidy_end n ss)

  -- each record says 9
  untidy_records : (n : ℕ) (ss : List Step) (i : ℕ) (d : Step) → i < length ss → (get_or (filled F n ss (given b)) i d).answer ≡ nine F b
  unfolding filled fill
  untidy_records n [] i d l = absurd (omega arith)
  untidy_records n (s ∷ ss) zero d l = untidy_answer s.operation s.variable (replicate n 0)
  untidy_records n (s ∷ ss) (suc i) d l =
      ap (λ (h : Held). (get_or (filled F n ss h) i d).answer) (untidy_stays n s) ∙ untidy_records n ss i d (omega arith)

  -- the list is taken all the same, and ends with the sheet given
  pub untidy_taken : (steps : List Step) (first second : Bytes) → length b ≤ min (length first) (length second)
      → ((steps_call F b steps first second).answer ≡ accepted (length b)) ×
      ((i : ℕ) (d : Step) → i < length steps → (get_or (steps_call F b steps first second).steps i d).answer ≡ nine F b)
  unfolding steps_call listed held tidy_tests answer
  untidy_taken steps first second fits =
      let shorter = min (length first) (length second) in
      let last = (held F b (calls shorter steps)).sheet in
      let is : answer (tidy_tests F b shorter) last ≡ accepted last
      = answer-++ (check_tests F b) (test (ltb shorter (length b)) 13 0 ∷ []) last checked ∙
      ap (λ t. cond t (refused 13 0) (accepted last)) (le-ltb shorter (length b) fits) in
      let whole = ap (listed steps (filled F shorter steps (given b)) first second) is in (
        ap (λ (l : Listed). l.answer) whole ∙ ap (λ (h : Held). accepted (length h.sheet)) (untidy_end shorter steps),
        λ i d l. ap (λ (w : Listed). (get_or w.steps i d).answer) whole ∙ untidy_records shorter steps i d l,
      )

-- demand 3

acceptances_are : (F : Format) (n : ℕ) (ss : List Step) (h : Held)
    → acceptances (filled F n ss h) + h.accepted_calls ≡ (perform_all F (calls n ss) h).accepted_calls
unfolding filled fill calls perform_all after held_after acceptances
acceptances_are F n [] h = zero-add h.accepted_calls
acceptances_are F n (s ∷ ss) h = by (perform F (call_of n s) h.sheet).answer (acceptances_are F n ss)
  where
    w : Bytes
    w = (perform F (call_of n s) h.sheet).output

    by : (a : Answer ℕ) → ((k : Held) → acceptances (filled F n ss k) + k.accepted_calls ≡ (perform_all F (calls n ss) k).accepted_calls)
        → acceptance a + acceptances (filled F n ss (held_after h a w)) + h.accepted_calls
        ≡ (perform_all F (calls n ss) (held_after h a w)).accepted_calls
    by (refused k i) ih = omega (arith, ih h)
    by (accepted k) ih = omega (arith, ih (held_after h (accepted k) w))

-- an accepted list leaves the last sheet at the front of the first buffer, and the records filled
listed_accepted : (steps done : List Step) (first second last : Bytes) (n : ℕ) (a : Answer Bytes) → ((c : Bytes) → a ≡ accepted c → last ≡ c)
    → (listed steps done first second a).answer ≡ accepted n
    → (take n (listed steps done first second a).first ≡ last) × ((listed steps done first second a).steps ≡ done)
unfolding listed padded
listed_accepted steps done first second last n (refused k i) same e = let z : ◌≡◌ {A = ℕ} 0 1 = cc in absurd (omega arith)
listed_accepted steps done first second last n (accepted c) same e =
    let size : length c ≡ n = cc in (
      ap (λ (m : ℕ). take m (c ++ replicate (length first - length c) 0)) (sym size) ∙
          take-append_seam c (replicate (length first - length c) 0) ∙ sym (same c refl),
      refl,
    )

-- steps are Settle and Expand alone
steps_none_outer : (n : ℕ) (ss : List Step) → none_outer (calls n ss) ≡ true
unfolding calls none_outer
steps_none_outer n [] = refl
steps_none_outer n (s ∷ ss) = by s.operation (steps_none_outer n ss)
  where
    by : (o : Operation) → none_outer (calls n ss) ≡ true → none_outer (single o s.variable (replicate n 0) ∷ calls n ss) ≡ true
    by settling e = e
    by expanding e = e

-- a list that is taken was checked, and the sheet held at its end stands at the front of the first buffer; its records are filled
pub record Taken (F : Format) (b : Bytes) (steps : List Step) (first second : Bytes) (n : ℕ) : Type 0 where
  pub checked : passes (check_tests F b) ≡ true
  pub at_front : take n (steps_call F b steps first second).first ≡ (held F b (calls (min (length first) (length second)) steps)).sheet
  pub records : (steps_call F b steps first second).steps ≡ filled F (min (length first) (length second)) steps (given b)

pub steps_taken : (F : Format) (b : Bytes) (steps : List Step) (first second : Bytes) (n : ℕ)
    → (steps_call F b steps first second).answer ≡ accepted n → Taken F b steps first second n
unfolding steps_call tidy_tests listed
steps_taken F b steps first second n e =
    let shorter = min (length first) (length second) in
    let tests = tidy_tests F b shorter in
    let last = (held F b (calls shorter steps)).sheet in
    let done = filled F shorter steps (given b) in
    let left = listed_accepted steps done first second last n (answer tests last) (λ c is. (accepted_passes tests last c is).1) e in
    record { checked = (passed-++ (check_tests F b) _ (passed tests last done (answer tests last) refl e)).0; at_front = left.0; records = left.1 }
  where
    passed : (tests : List Test) (last : Bytes) (done : List Step) (a : Answer Bytes) → answer tests last ≡ a
        → (listed steps done first second a).answer ≡ accepted n → passes tests ≡ true
    passed tests last done (refused k i) h is = let z : ◌≡◌ {A = ℕ} 0 1 = cc in absurd (omega arith)
    passed tests last done (accepted c) h is = (accepted_passes tests last c h).0

-- refused, no record and no byte changes
pub steps_refused : (F : Format) (b : Bytes) (steps : List Step) (first second : Bytes) (n i : ℕ)
    → (steps_call F b steps first second).answer ≡ refused n i
    → ((steps_call F b steps first second).steps ≡ steps) × ((steps_call F b steps first second).first ≡ first) ×
    ((steps_call F b steps first second).second ≡ second)
unfolding steps_call listed
steps_refused F b steps first second n i e =
    let shorter = min (length first) (length second) in
    by (answer (tidy_tests F b shorter) (held F b (calls shorter steps)).sheet) e
  where
    done : List Step
    done = filled F (min (length first) (length second)) steps (given b)

    by : (a : Answer Bytes) → (listed steps done first second a).answer ≡ refused n i
        → ((listed steps done first second a).steps ≡ steps) × ((listed steps done first second a).first ≡ first) ×
        ((listed steps done first second a).second ≡ second)
    by (refused k j) h = (refl, refl, refl)
    by (accepted c) h = let z : ◌≡◌ {A = ℕ} 0 1 = cc in absurd (omega arith)

pub steps_demand_3 : (F : Format) → Sound F → (b : Bytes) (s : Sizes) → check F b ≡ accepted s → is_tidy (formula F b).matrix ≡ true
    → (steps : List Step) (first second : Bytes) (n : ℕ) → (steps_call F b steps first second).answer ≡ accepted n
    → StepsDemand3 F b steps first second n
unfolding held
steps_demand_3 F sound b s h t steps first second n e =
    let shorter = min (length first) (length second) in
    let left = steps_taken F b steps first second n e in
    let front = take n (steps_call F b steps first second).first in
    let records : acceptances (steps_call F b steps first second).steps ≡ (held F b (calls shorter steps)).accepted_calls
    = ap acceptances left.records ∙ sym (add-zero (acceptances (filled F shorter steps (given b)))) ∙ acceptances_are F shorter steps (given b) in
    record {
      at_front = left.at_front;
      records = records;
      counts =
          ap (λ (k : ℕ). k + variables F front) records ∙
          ap (λ (c : Bytes). (held F b (calls shorter steps)).accepted_calls + variables F c) left.at_front ∙
          demand_3_counts F sound b s h t (calls shorter steps) (steps_none_outer shorter steps);
      demand = demand_3 F sound b s h t (calls shorter steps);
    }
