-- Every answer has values in their ranges, so that taking it apart gives it back: numbers of refusals up to 25, places up to 9,216, lengths up
-- to 46,088 at both formats.
-- Assumes nothing.
use mathlib.Core.Path.{◌≡◌, refl, sym, ◌∙◌, ap, subst, subst₂}
use mathlib.Core.Bool.{Bool, true, false, beq}
use mathlib.Core.List.{List, [], ◌∷◌, ◌++◌}
use Prim.Native.Nat.{ℕ, zero, suc, ◌+◌, ◌^◌, ◌≤◌, ◌<◌}
use native.Mathlib.Nat.{pow-suc, mul-le-mul_left, le_trans, le_of_eq}
use native.Mathlib.Omega.{arith}
use lib.Dec.{leb, ltb}
use lib.ListN.{length, take, length-drop}
use lib.Seq.{take-append_seam}
use borrow.Author.Tests.{leb-true, leb-false, ltb-false}
use Rattle.formula.specs.Tree.{Prefix, Formula, of, rows}
use Rattle.formula.specs.Trial.{Tried}
use Rattle.formula.specs.Solve.{State, End, ended, stopped, Fits, Run, solve}
use Rattle.formula.specs.Force.{given, tried, turn_after, wanted, which, forced_by, forced}
use Rattle.formula.specs.Guards.{Kept, Guarded, holds, stuck, clash, clashing, after_run, guarded}
use Rattle.formula.specs.Right.{SolveRight}
use Rattle.formula.proofs.Expand.{raw_rows_most}
use Rattle.formula.proofs.Choice.{cheapest-chosen}
use Rattle.formula.proofs.Solve.{solve_right}
use Rattle.formula.proofs.Guards.{clashing_most}
use Rattle.formula.proofs.Force.{prefix_given, rows-given}
use Rattle.sheet.specs.Format as sheet
use Rattle.sheet.specs.Format.{Bytes, narrow, wide, sheet_length, fits, variables, nodes}
use Rattle.sheet.specs.Sheet.{formula, sheet as sheet-of}
use Rattle.sheet.specs.Check.{Answer, refused, accepted, IsKnown, known, Known, Test, test, answer, passes, Sizes, check_tests, check}
use Rattle.sheet.specs.Operations.{padded, write, tidy_tests, tidy_call, settle_tests, settle_call, expand_tests, expand_call}
use Rattle.sheet.specs.Operations.{execute_tests, execute_call, reduce_tests, reduce_call, solved, solving, solve_call, trial_call, tidy_and_bound_tests, quote_tests, quote_call}
use Rattle.sheet.specs.Refusals.{too_many_to_try}
use Rattle.sheet.specs.Qdimacs.{qdimacs, said_tests, qdimacs_tests, qdimacs_call}
use Rattle.sheet.specs.Conversion.{carried, to_wide_tests, to_wide_call, to_narrow_tests, to_narrow_call}
use Rattle.sheet.specs.Force.{values_of, Panel, force_tests, panel, force_call}
use Rattle.sheet.specs.Guards.{Guarding, guards_tests, guards_answer, guards_output, guarding, least_room, guards_call, Starts}
use Rattle.sheet.specs.Trace.{room}
use Rattle.sheet.specs.Limits.{Within}
use Rattle.sheet.specs.Order as order
use Rattle.sheet.specs.Order.{sort_tests, sort_call, room_test, Compared, is_ordered, for_sheet, compare_answer, comparing, compare_call}
use Rattle.sheet.specs.Truthful.{SheetOf, TruthfulSheet}
use Rattle.sheet.proofs.Tests.{passed-∷, passed-++, answer-passes, accepted_passes}
use Rattle.sheet.proofs.CheckTests.{SizesFit, passed, passed_sizes}
use Rattle.sheet.proofs.Limits.{binds-numbered}
use Rattle.sheet.proofs.Accepted.{accepted_length, accepted_within, accepted_variables, accepted_nodes}
use Rattle.sheet.proofs.Placed.{solve_placed}
use Rattle.sheet.proofs.Force.{within-given}
use Rattle.sheet.proofs.Guards.{guards_right, guards-initial}
use Rattle.sheet.proofs.Verdicts.{trial_right}
use Rattle.sheet.proofs.Calls.{front_written}
use Rattle.sheet.proofs.Known.{refused_known, check-known, check-alone, tidy-known, tidy-place, settle_known, settle_place, expand_known, expand_place}
use Rattle.sheet.proofs.Known.{execute_known, execute_place, reduce_known, reduce_place, sort-known, sort-place}
use Rattle.sheet.specs.Check.{last_place}
use Rattle.sheet.proofs.Known.{places_to, PlacesTo, trial-known, quote_known, quote_place, force_known, force_place, guards-known, guards-place}
use Rattle.sheet.proofs.Known.{refused_place, check-place, to_wide-known, to_narrow-known, qdimacs-known}
use Rattle.sheet.proofs.Truthful.{tidy_truthful, settle_truthful, expand_truthful, execute_truthful, reduce_truthful, sort_truthful, qdimacs_truthful, to_wide_truthful, to_narrow_truthful}
use Rattle.rows.specs.Formats.{format_of}
use Rattle.rows.specs.declared.Format.{Format}
use Rattle.rows.specs.declared.Format.TheVariants.{Narrow, Wide}
use Rattle.rows.proofs.Limits.{sound}
use Rattle.packing.specs.Unpacked.{Tellable, FitsWritten, FitsCheck, FitsTrial, FitsSolved, FitsGuards, FitsOutcome, FitsForced, FitsCompared}

-- a refusal of a sheet of one of the two formats
pub told : (f : Format) {n i : ℕ} → IsKnown n → i ≤ last_place (format_of f) → Tellable n i
told f k l = record { is_number = k.least; small_number = omega (arith, k.most); small_place = by f l }
  where
    by : (f : Format) {i : ℕ} → i ≤ last_place (format_of f) → i < 65536
    by Narrow l = omega arith
    by Wide l = omega arith

-- a sheet that Check accepts is short
pub short : (f : Format) (b : Bytes) → passes (check_tests (format_of f) b) ≡ true → length b ≤ 46088
unfolding sheet_length
short f b p = by f (passed_sizes (format_of f) b (passed (format_of f) b p).sizes)
  where
    by : (f : Format) → SizesFit (format_of f) b → length b ≤ 46088
    by Narrow s = omega (arith, s.right_length, s.few_variables, s.few_nodes)
    by Wide s = omega (arith, s.right_length, s.few_variables, s.few_nodes)

pub check-fits : (f : Format) (b : Bytes) → FitsCheck (check (format_of f) b)
unfolding check
check-fits f b = by (check (format_of f) b) refl
  where
    by : (a : Answer Sizes) → check (format_of f) b ≡ a → FitsCheck a
    by (refused n i) e = told f (refused_known (check_tests (format_of f) b) _ (check-known (format_of f) b) e) (check-alone (format_of f) b _ e)
    by (accepted s) e =
        let p = accepted_passes (check_tests (format_of f) b) _ s e in
        let fit = passed_sizes (format_of f) b (passed (format_of f) b p.0).sizes in
        subst (λ (z : Sizes). (z.variables < 65536) × (z.nodes < 4294967296)) p.1 (small f fit)
      where
        small : (f : Format) → SizesFit (format_of f) b → (variables (format_of f) b < 65536) × (nodes (format_of f) b < 4294967296)
        small Narrow s = (omega (arith, s.few_variables), omega (arith, s.few_nodes))
        small Wide s = (omega (arith, s.few_variables), omega (arith, s.few_nodes))

-- an operation that writes a sheet of format g after a sheet of format f
pub written_fits : (f g : Format) {t : Bool} (ts : List Test) (new out : Bytes) → Known ts
    → ((n i : ℕ) → answer ts (length new) ≡ refused n i → i ≤ last_place (format_of f)) → TruthfulSheet (format_of g) t (write ts new out)
    → FitsWritten (write ts new out).answer
unfolding write
written_fits f g ts new out known place truthful = by (answer ts (length new)) refl
  where
    by : (a : Answer ℕ) → answer ts (length new) ≡ a → FitsWritten a
    by (refused n i) e = told f (refused_known ts (length new) known e) (place n i e)
    by (accepted n) e =
        let p = accepted_passes ts (length new) n e in
        let w = front_written ts new out n e in
        let ok = subst (λ (c : Bytes). passes (check_tests (format_of g) c) ≡ true) w.1 (truthful.on_accepted n e).is_accepted in
        omega (arith, p.1, short g new ok)

module _ (f : Format) (b : Bytes) where
  abbrev F : sheet.Format
  F = format_of f

  pub tidy-fits : (out : Bytes) → FitsWritten (tidy_call F b out).answer
  unfolding tidy_call
  tidy-fits out = written_fits f f (tidy_tests F b (length out)) _ out (tidy-known F b (length out)) (λ n i e. tidy-place F b _ (length out) e) (tidy_truthful F (sound f) b out refl)

  pub settle_fits : (x : ℕ) (out : Bytes) → FitsWritten (settle_call F b x out).answer
  unfolding settle_call
  settle_fits x out =
      written_fits f f (settle_tests F b x (length out)) _ out (settle_known F b x (length out)) (λ n i e. settle_place F b _ x (length out) e)
      (settle_truthful F (sound f) b x out refl)

  pub expand_fits : (x : ℕ) (out : Bytes) → FitsWritten (expand_call F b x out).answer
  unfolding expand_call
  expand_fits x out =
      written_fits f f (expand_tests F b x (length out)) _ out (expand_known F b x (length out)) (λ n i e. expand_place F b _ x (length out) e)
      (expand_truthful F (sound f) b x out refl)

  pub execute_fits : (x ceiling : ℕ) (out : Bytes) → FitsWritten (execute_call F b x ceiling out).answer
  unfolding execute_call
  execute_fits x ceiling out =
      written_fits f f (execute_tests F b x ceiling (length out)) _ out (execute_known F b x ceiling (length out)) (λ n i e. execute_place F b _ x ceiling (length out) e)
      (execute_truthful F (sound f) b x ceiling out refl)

  pub reduce_fits : (out : Bytes) → FitsWritten (reduce_call F b out).answer
  unfolding reduce_call
  reduce_fits out =
      written_fits f f (reduce_tests F b (length out)) _ out (reduce_known F b (length out)) (λ n i e. reduce_place F b _ (length out) e) (reduce_truthful F (sound f) b out refl)

  pub sort-fits : (out : Bytes) → FitsWritten (sort_call F b out).answer
  unfolding sort_call
  sort-fits out = written_fits f f (sort_tests F b out) _ out (sort-known F b out) (λ n i e. sort-place F b _ out e) (sort_truthful F (sound f) b out refl)

-- carried over and brought back

pub to_wide-fits : (b out : Bytes) → FitsWritten (to_wide_call b out).answer
unfolding to_wide_call to_wide_tests places_to
to_wide-fits b out =
    written_fits Narrow Wide (to_wide_tests b (length out)) (carried narrow wide b) out (to_wide-known b (length out)) (λ n i e. check-place narrow b _ _ (λ p. refl) e)
    (to_wide_truthful b out refl)

pub to_narrow-fits : (b out : Bytes) → FitsWritten (to_narrow_call b out).answer
unfolding to_narrow_call to_narrow_tests places_to
to_narrow-fits b out =
    written_fits Wide Narrow (to_narrow_tests b (length out)) (carried wide narrow b) out (to_narrow-known b (length out))
    (λ n i e. check-place wide b _ _ (λ p. refl) e) (to_narrow_truthful b out refl)

-- a text's refusals have no place
pub qdimacs-fits : (f : Format) (t out : Bytes) → FitsWritten (qdimacs_call (format_of f) t out).answer
unfolding qdimacs_call qdimacs_tests said_tests places_to
qdimacs-fits f t out =
    written_fits f f (qdimacs_tests (format_of f) t (length out)) (sheet-of (format_of f) (qdimacs t)) out (qdimacs-known (format_of f) t (length out))
    (λ n i e. omega (arith, refused_place 0 (qdimacs_tests (format_of f) t (length out)) _ refl e)) (qdimacs_truthful (format_of f) (sound f) t out refl)

-- Solve

pub numbers_small : (f : Format) {x : ℕ} → x ≤ (format_of f).most_variables → x < 65536
numbers_small Narrow l = omega arith
numbers_small Wide l = omega arith

module _ (f : Format) (b first second : Bytes) where
  abbrev G : sheet.Format
  G = format_of f

  abbrev most : ℕ
  most = room first second

  reached : Run
  reached = solve (fits G most) (formula G b)

  -- a run's answer, by how it ends
  run_fits : passes (check_tests G b) ≡ true → length b ≤ most → FitsSolved (solved reached.end reached.state)
  unfolding solved reached
  run_fits checked room_enough = by reached.end refl
    where
      w : Within G (formula G b)
      w = accepted_within G b checked

      right : SolveRight (fits G most) (formula G b) reached
      right = solve_right (fits G most) (formula G b) w.is_distinct w.is_closed

      small : {k : ℕ} → k ≤ length (formula G b).prefix → k < 65536
      small l = numbers_small f (omega (arith, l, w.few_variables))

      by : (e : End) → reached.end ≡ e → FitsSolved (solved e reached.state)
      by (ended v) e =
          record {
            small_variable = omega arith;
            small_settled = small (omega (arith, right.counts));
            small_expanded = small (omega (arith, right.counts));
          }
      by (stopped x) e =
          let stuck = (right.stops x).0 e in
          let placed = solve_placed G most (formula G b) (record { within = w; has_place = fits_in }) in
          record {
            small_variable = numbers_small f (binds-numbered G _ x placed.within.is_numbered (cheapest-chosen _ x stuck.is_cheapest).1);
            small_settled = small (omega (arith, right.counts));
            small_expanded = small (omega (arith, right.counts));
          }
        where
          fits_in : sheet_length G (length (formula G b).prefix) (rows (formula G b).matrix) ≤ most
          fits_in =
              subst₂ (λ v n. sheet_length G v n ≤ most) (sym (accepted_variables G b checked)) (sym (accepted_nodes G b checked))
              (omega (arith, room_enough, accepted_length G b checked))

  pub solve-fits : FitsSolved (solve_call G b first second).answer
  unfolding solve_call solving tidy_tests reached
  solve-fits = by (answer (tidy_tests G b most) reached) refl
    where
      by : (a : Answer Run) → answer (tidy_tests G b most) reached ≡ a → FitsSolved (solving G first second a).answer
      by (refused n i) e = told f (refused_known (tidy_tests G b most) reached (tidy-known G b most) e) (tidy-place G b reached most e)
      by (accepted r) e =
          let p = accepted_passes (tidy_tests G b most) reached r e in
          let parts = passed-++ (check_tests G b) _ p.0 in
          subst (λ (x : Run). FitsSolved (solved x.end x.state)) p.1
          (run_fits parts.0 (ltb-false most (length b) (passed-∷ _ _ parts.1).0))

-- Trial: at most 2 to the power 20 leaves

power_most : (v m : ℕ) → v ≤ m → 2 ^ v ≤ 2 ^ m
power_most v zero l = subst (λ k. 2 ^ k ≤ 2 ^ 0) (none v l) (omega arith)
  where
    none : (v : ℕ) → v ≤ 0 → 0 ≡ v
    none v l = omega arith
power_most v (suc m) l = by (leb v m) refl (λ h. power_most v m h)
  where
    all : (v : ℕ) → m < v → v ≤ suc m → suc m ≡ v
    all v h k = omega arith

    by : (c : Bool) → leb v m ≡ c → (v ≤ m → 2 ^ v ≤ 2 ^ m) → 2 ^ v ≤ 2 ^ suc m
    by true e less = omega (arith, less (leb-true v m e), pow-suc 2 m)
    by false e less = subst (λ k. 2 ^ k ≤ 2 ^ suc m) (all v (leb-false v m e) l) (omega arith)

abbrev trial_tests : Format → Bytes → List Test
trial_tests f b = check_tests (format_of f) b ++ (test (ltb 20 (variables (format_of f) b)) too_many_to_try 0 ∷ [])

trial-places : (f : Format) (b : Bytes) → PlacesTo (last_place (format_of f)) (test (ltb 20 (variables (format_of f) b)) too_many_to_try 0 ∷ [])
unfolding places_to
trial-places Narrow b = refl
trial-places Wide b = refl

pub trial-fits : (f : Format) (b : Bytes) → FitsTrial (trial_call (format_of f) b)
unfolding trial_call
trial-fits f b = by (trial_call (format_of f) b) refl
  where
    by : (a : Answer Tried) → trial_call (format_of f) b ≡ a → FitsTrial a
    by (refused n i) e =
        told f (refused_known (trial_tests f b) _ (trial-known (format_of f) b) e) (check-place (format_of f) b _ _ (λ p. trial-places f b) e)
    by (accepted r) e =
        let p = accepted_passes (trial_tests f b) _ r e in
        let few = ltb-false 20 (variables (format_of f) b) (passed-∷ _ _ (passed-++ (check_tests (format_of f) b) _ p.0).1).0 in
        omega (arith, (trial_right (format_of f) b r e).1, power_most (variables (format_of f) b) 20 few)

quoted_checked : (f : Format) (b : Bytes) (x : ℕ) → passes (quote_tests (format_of f) b x) ≡ true → passes (check_tests (format_of f) b) ≡ true
unfolding quote_tests
quoted_checked f b x p =
    (passed-++ (check_tests (format_of f) b) (tidy_and_bound_tests (format_of f) b x) (passed-++ (check_tests (format_of f) b ++ tidy_and_bound_tests (format_of f) b x) _ p).0).0

few_rows : (f : Format) {n : ℕ} → n ≤ (format_of f).most_nodes → n ≤ 8192
few_rows Narrow l = omega arith
few_rows Wide l = l

-- Quote: at most twice the rows, and two
pub quote_fits : (f : Format) (b : Bytes) (x : ℕ) → FitsWritten (quote_call (format_of f) b x)
unfolding quote_call
quote_fits f b x = by (quote_call (format_of f) b x) refl
  where
    by : (a : Answer ℕ) → quote_call (format_of f) b x ≡ a → FitsWritten a
    by (refused n i) e = told f (refused_known (quote_tests (format_of f) b x) _ (quote_known (format_of f) b x) e) (quote_place (format_of f) b _ x e)
    by (accepted n) e =
        let p = accepted_passes (quote_tests (format_of f) b x) _ n e in
        let w = accepted_within (format_of f) b (quoted_checked f b x p.0) in
        omega (arith, p.1, raw_rows_most (of x) (formula (format_of f) b).matrix, few_rows f w.few_nodes)

-- Compare: a refusal of the first sheet, or of the second

for_fits : {A : Type 0} (which : ℕ) (x : Answer A) (c : Compared) → which < 256 → ((n i : ℕ) → x ≡ refused n i → Tellable n i) → FitsCompared c
    → FitsCompared (for_sheet which x c)
unfolding for_sheet
for_fits which (refused n i) c l t k = (l, t n i refl)
for_fits which (accepted a) c l t k = k

check_told : (f : Format) (b : Bytes) (n i : ℕ) → check (format_of f) b ≡ refused n i → Tellable n i
check_told f b n i e = subst FitsCheck e (check-fits f b)

room_told : (b buffer : Bytes) (n i : ℕ) → order.room b buffer ≡ refused n i → Tellable n i
unfolding order.room places_to known
room_told b buffer n i e =
    told Wide (refused_known (room_test b buffer ∷ []) (length b) refl e) (omega (arith, refused_place 0 (room_test b buffer ∷ []) (length b) refl e))

answer_is : (first second : Bytes) (c : Compared) → (comparing first second c).answer ≡ c
unfolding comparing
answer_is first second (order.is_refused w n i) = refl
answer_is first second (is_ordered o) = refl

pub compare_fits : (f : Format) (a b first second : Bytes) → FitsCompared (compare_call (format_of f) a b first second).answer
unfolding compare_call compare_answer
compare_fits f a b first second =
    subst FitsCompared (sym (answer_is first second (compare_answer (format_of f) a b first second)))
    (for_fits 1 (check (format_of f) a) _ (omega arith) (check_told f a)
    (for_fits 2 (check (format_of f) b) _ (omega arith) (check_told f b)
    (for_fits 1 (order.room a first) _ (omega arith) (room_told a first) (for_fits 2 (order.room b second) _ (omega arith) (room_told b second) tt))))

-- a run's variable, of a formula within the limits whose sheet has its place
run-variable : (f : Format) (most : ℕ) (g : Formula) {x : ℕ} → Within (format_of f) g
    → sheet_length (format_of f) (length g.prefix) (rows g.matrix) ≤ most → (solve (fits (format_of f) most) g).end ≡ stopped x
    → x < 65536
run-variable f most g {x} w room_enough e =
    let right = solve_right (fits (format_of f) most) g w.is_distinct w.is_closed in
    let placed = solve_placed (format_of f) most g (record { within = w; has_place = room_enough }) in
    numbers_small f (binds-numbered (format_of f) _ x placed.within.is_numbered (cheapest-chosen _ x ((right.stops x).0 e).is_cheapest).1)

-- fewer variables and no more rows make no longer sheet
shorter_sheet : (F : sheet.Format) {v v' n n' : ℕ} → v ≤ v' → n ≤ n' → sheet_length F v n ≤ sheet_length F v' n'
unfolding sheet_length
shorter_sheet F {v} {v'} {n} {n'} h k = omega (arith, mul-le-mul_left {m = v + n} {n = v' + n'} (1 + F.width) (omega arith))

-- Force: the variable at which a run on the formula with values put in stopped
module _ (f : Format) (b vs first second : Bytes) where
  abbrev H : sheet.Format
  H = format_of f

  abbrev len : ℕ
  len = room first second

  abbrev whole : Formula
  whole = formula H b

  -- a sheet that Check accepts, which the buffers hold
  module _ (checked : passes (check_tests H b) ≡ true) (holds : length b ≤ len) where
    given-variable : (bs : List Bool) {x : ℕ} → (solve (fits H len) (given bs whole)).end ≡ stopped x → x < 4294967296
    given-variable bs e =
        let w = accepted_within H b checked in
        let fewer : length (given bs whole).prefix ≤ length whole.prefix
        = omega (arith, ap length (prefix_given bs whole.prefix whole.matrix), length-drop (length bs) whole.prefix) in
        let less = shorter_sheet H fewer (le_of_eq (rows-given bs whole.prefix whole.matrix)) in
        let own : sheet_length H (length whole.prefix) (rows whole.matrix) ≤ len
        = subst₂ (λ v n. sheet_length H v n ≤ len) (sym (accepted_variables H b checked)) (sym (accepted_nodes H b checked))
        (omega (arith, holds, accepted_length H b checked)) in
        let small = run-variable f len (given bs whole) (within-given H bs whole w) (le_trans less own) e in
        omega (arith, small)

    outcome_fits : FitsOutcome (forced (fits H len) (values_of vs) whole)
    unfolding forced forced_by
    outcome_fits =
        by (solve (fits H len) (tried (values_of vs) false whole)).end (solve (fits H len) (tried (values_of vs) true whole)).end refl refl
      where
        both_ended : (m n : Bool) → FitsOutcome (which m n)
        both_ended false false = tt
        both_ended true false = tt
        both_ended false true = tt
        both_ended true true = tt

        by : (d e : End) → (solve (fits H len) (tried (values_of vs) false whole)).end ≡ d
            → (solve (fits H len) (tried (values_of vs) true whole)).end ≡ e
            → FitsOutcome (forced_by (wanted (turn_after (values_of vs) whole)) d e)
        by (stopped x) e h k = given-variable (values_of vs ++ (false ∷ [])) h
        by (ended v) (stopped x) h k = given-variable (values_of vs ++ (true ∷ [])) k
        by (ended v) (ended u) h k =
            let w = wanted (turn_after (values_of vs) whole) in
            both_ended (beq w v) (beq w u)

  panel-fits : passes (force_tests H b vs len) ≡ true → FitsOutcome (panel H b vs len).outcome
  unfolding force_tests panel
  panel-fits p =
      let parts = passed-++ (check_tests H b) _ p in
      let last = passed-∷ _ _ (passed-∷ _ _ (passed-∷ _ _ parts.1).1).1 in
      outcome_fits parts.0 (ltb-false len (length b) last.0)

  pub force_fits : FitsForced (force_call H b vs first second).answer
  unfolding force_call
  force_fits = by (answer (force_tests H b vs len) (panel H b vs len)) refl
    where
      by : (a : Answer Panel) → answer (force_tests H b vs len) (panel H b vs len) ≡ a → FitsForced a
      by (refused n i) e = told f (refused_known (force_tests H b vs len) _ (force_known H b vs len) e) (force_place H b _ vs len e)
      by (accepted a) e =
          let p = accepted_passes (force_tests H b vs len) (panel H b vs len) a e in
          subst (λ (q : Panel). FitsOutcome q.outcome) p.1 (panel-fits p.0)

-- Guards: the initial run's answer, or the length of the sheet of the children kept and how many runs stopped

clash_stops : (e : End) (s : State) (p : Prefix) (k : Kept) {g : Formula} {n : ℕ} → after_run e s p k ≡ clash g n → k.stops ≡ n
unfolding after_run
clash_stops (ended true) s p k h = let z : ◌≡◌ {A = ℕ} 0 1 = cc in absurd (omega arith)
clash_stops (ended false) s p k h = cc
clash_stops (stopped x) s p k h = let z : ◌≡◌ {A = ℕ} 0 1 = cc in absurd (omega arith)

module _ (f : Format) (b out first second : Bytes) where
  abbrev K : sheet.Format
  K = format_of f

  abbrev limit : Fits
  limit = fits K (room first second)

  abbrev guard_tests : List Test
  guard_tests = guards_tests K b (least_room out first second)

  abbrev found : Guarded
  found = guarded limit (formula K b)

  -- the sheet kept is one that Check accepts
  kept_short : (g : Formula) (k : ℕ) → passes guard_tests ≡ true → found ≡ clash g k → length (sheet-of K g) ≤ 46088
  unfolding guards_call guarding guards_answer guards_output padded
  kept_short g k p e =
      let whole = ap (guarding K out first second) (answer-passes guard_tests found p ∙ ap accepted e) in
      let says = ap (λ (w : Guarding). w.answer) whole in
      let front = ap (λ (w : Guarding). take (length (sheet-of K g)) w.output) whole ∙ take-append_seam (sheet-of K g) _ in
      short f (sheet-of K g)
      (subst (λ (c : Bytes). passes (check_tests K c) ≡ true) front (guards_right K b out first second (sound f) (length (sheet-of K g)) k says).is_accepted)

  kept-fits : (g : Formula) (k : ℕ) → passes guard_tests ≡ true → found ≡ clash g k → (length (sheet-of K g) < 4294967296) × (k < 65536)
  unfolding guarded guards_tests
  kept-fits g k p e =
      let checked = (passed-++ (check_tests K b) _ p).0 in
      let same = clash_stops _ _ _ _ e in
      let most = clashing_most limit (formula K b) in
      let few = few_rows f (accepted_within K b checked).few_nodes in
      (omega (arith, kept_short g k p e), omega (arith, same, most, few))

  -- an answer that is no refusal, by what was found
  found-fits : passes guard_tests ≡ true → (x : Guarded) → found ≡ x → Starts (guards_answer K x) (solve_call K b first second).answer → FitsGuards (guards_answer K x)
  unfolding guards_answer
  found-fits p (holds s) e starts = subst FitsSolved starts (solve-fits f b first second)
  found-fits p (stuck x s) e starts = subst FitsSolved starts (solve-fits f b first second)
  found-fits p (clash g k) e starts = kept-fits g k p e

  pub guards-fits : FitsGuards (guards_call K b out first second).answer
  unfolding guards_call guarding
  guards-fits = by (answer guard_tests found) refl (guards-initial K b out first second)
    where
      by : (a : Answer Guarded) → answer guard_tests found ≡ a
          → Starts (guarding K out first second (answer guard_tests found)).answer (solve_call K b first second).answer
          → FitsGuards (guarding K out first second a).answer
      by (refused n i) e starts = told f (refused_known guard_tests found (guards-known K b (least_room out first second)) e) (guards-place K b found (least_room out first second) e)
      by (accepted g) e starts =
          let p = accepted_passes guard_tests found g e in
          found-fits p.0 g p.1
          (subst (λ (x : Answer Guarded). Starts (guarding K out first second x).answer (solve_call K b first second).answer) e starts)
