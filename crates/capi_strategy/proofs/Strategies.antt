-- Strategy for C: taking a packed answer apart gives it back, every answer has values in their ranges, and what its number says about truth.
-- Assumes nothing.
use mathlib.Core.Path.{◌≡◌, refl, sym, ap, ap₂, ◌∙◌, subst}
use mathlib.Core.Bool.{Bool, true, false}
use Prim.Native.Nat.{ℕ, suc, ◌+◌, ◌*◌, ◌≤◌, ◌<◌, ◌^◌}
use native.Mathlib.Omega.{arith}
use lib.ListN.{length, take}
use borrow.Author.Tests.{eq-eqb}
use Rattle.formula.specs.Solve.{Run, solve}
use Rattle.sheet.specs.Format as sheet
use Rattle.sheet.specs.Format.{Bytes, fits}
use Rattle.sheet.specs.Sheet.{formula}
use Rattle.sheet.specs.Check.{Answer, refused, accepted, answer, passes, check_tests}
use Rattle.sheet.specs.Operations.{tidy_tests, is_refused, is_ended, solving, solve_call}
use Rattle.sheet.specs.Strategy.{StrategyAnswer, strategy_refused, strategy_stopped, strategy_written, strategy_too_long}
use Rattle.sheet.specs.Strategy.{Winning, strategy_call, solve_part}
use Rattle.sheet.specs.Trace.{room}
use Rattle.sheet.specs.Truthful.{TruthfulStrategy}
use Rattle.sheet.proofs.Tests.{passed-++, accepted_passes}
use Rattle.sheet.proofs.Accepted.{accepted_variables, accepted_within}
use Rattle.sheet.proofs.Verdicts.{run_ended, solve_ended, solve_stopped}
use Rattle.sheet.proofs.Strategy.Winning.{strategy_solves, strategy_sheet, strategy_comes_from}
use Rattle.sheet.proofs.Strategy.Ranges.{strategy-rows_most}
use Rattle.sheet.proofs.Truthful.{strategy_truthful}
use Rattle.rows.specs.Formats.{format_of}
use Rattle.rows.specs.declared.Format.{Format}
use Rattle.rows.specs.declared.Format.TheVariants.{Narrow, Wide}
use Rattle.rows.proofs.Limits.{limits, sound}
use Rattle.packing.specs.Packed.{packed, verdict_word}
use Rattle.packing.specs.Unpacked.{number_of, word_of, FitsSolved}
use Rattle.packing.proofs.Unpacking.{number_back, low_back, refused_places, not_accepted}
use Rattle.packing.proofs.Ranges.{short, solve-fits}
use Rattle.capi_strategy.specs.Strategies.{packed_counts, packed_strategy, settled_of, expanded_of, last_of, unpacked_strategy, CountsFit, FitsStrategy}
use Rattle.capi_strategy.specs.Strategies.{Returned, packed_winning, ToldStrategy}

-- taken apart

module _ (w : ℕ) {s e l : ℕ} (small : w < 256) (c : CountsFit s e l) where
  abbrev n : ℕ
  n = packed_counts w s e l

  number-none : number_of n ≡ 0
  number-none = omega arith

  word_back : word_of n ≡ w
  word_back = omega (arith, small)

  settled_back : settled_of n ≡ s
  settled_back = omega (arith, small, c.small_settled)

  expanded_back : expanded_of n ≡ e
  expanded_back = omega (arith, small, c.small_settled, c.small_expanded)

  last_back : last_of n ≡ l
  last_back = omega (arith, small, c.small_settled, c.small_expanded, c.small_last)

pub word_few : (v : Bool) → verdict_word v ≤ 1
word_few true = omega arith
word_few false = omega arith

pub unpack_strategy : (a : StrategyAnswer) → FitsStrategy a → unpacked_strategy (packed_strategy a) ≡ a
unfolding packed_strategy
unpack_strategy (strategy_refused number place) t =
    let p = refused_places 0 (omega arith) t in
    rw (not_accepted 0 (omega arith) t) (ap₂ strategy_refused (number_back number 0 place 0 p) (low_back number 0 place 0 p))
unpack_strategy (strategy_stopped x settled expanded) c =
    let few : 2 < 256 = omega arith in
    rw (eq-eqb _ 0 (number-none 2 few c), word_back 2 few c, settled_back 2 few c, expanded_back 2 few c, last_back 2 few c)
unpack_strategy (strategy_written true settled expanded length) c =
    let few : 1 < 256 = omega arith in
    rw (eq-eqb _ 0 (number-none 1 few c), word_back 1 few c, settled_back 1 few c, expanded_back 1 few c, last_back 1 few c)
unpack_strategy (strategy_written false settled expanded length) c =
    let few : 0 < 256 = omega arith in
    rw (eq-eqb _ 0 (number-none 0 few c), word_back 0 few c, settled_back 0 few c, expanded_back 0 few c, last_back 0 few c)
unpack_strategy (strategy_too_long true settled expanded rows) c =
    let few : 4 < 256 = omega arith in
    rw (eq-eqb _ 0 (number-none 4 few c), word_back 4 few c, settled_back 4 few c, expanded_back 4 few c, last_back 4 few c)
unpack_strategy (strategy_too_long false settled expanded rows) c =
    let few : 3 < 256 = omega arith in
    rw (eq-eqb _ 0 (number-none 3 few c), word_back 3 few c, settled_back 3 few c, expanded_back 3 few c, last_back 3 few c)

-- ranges

-- a sheet that isn't refused is one that Check accepts
not_refused : (F : sheet.Format) (b first second : Bytes) → ((n i : ℕ) → (solve_call F b first second).answer ≡ is_refused n i → ⊥)
    → passes (check_tests F b) ≡ true
unfolding solve_call solving tidy_tests
not_refused F b first second never = by (answer (tidy_tests F b (room first second)) whole) refl
  where
    whole : Run
    whole = solve (fits F (room first second)) (formula F b)

    by : (a : Answer Run) → answer (tidy_tests F b (room first second)) whole ≡ a → passes (check_tests F b) ≡ true
    by (refused n i) e = absurd (never n i (ap (λ (a : Answer Run). (solving F first second a).answer) e))
    by (accepted r) e = (passed-++ (check_tests F b) _ (accepted_passes (tidy_tests F b (room first second)) whole r e).0).0

rows_small : (f : Format) {n : ℕ} → n ≤ suc ((format_of f).most_variables * (2 + (format_of f).most_nodes)) → n < 2 ^ 24
rows_small Narrow l = omega arith
rows_small Wide l = omega arith

module _ (f : Format) (b first second out : Bytes) where
  abbrev F : sheet.Format
  F = format_of f

  abbrev call : Winning
  call = strategy_call F b first second out

  solves : {a : StrategyAnswer} → call.answer ≡ a → (solve_call F b first second).answer ≡ solve_part a
  solves h = sym (strategy_solves F b first second out).0 ∙ ap solve_part h

  few_variables : passes (check_tests F b) ≡ true → sheet.variables F b ≤ 1024
  few_variables p = omega (arith, accepted_variables F b p, (accepted_within F b p).few_variables, (limits f).few_variables)

  counted : {v : Bool} {settled expanded last : ℕ} → (solve_call F b first second).answer ≡ is_ended v settled expanded → last < 2 ^ 24
      → CountsFit settled expanded last
  counted {v} {settled} {expanded} e l =
      let few = few_variables (run_ended F b first second v settled expanded e).0 in
      let counts = (solve_ended F b first second v settled expanded e).1.1.counts in
      record { small_settled = omega (arith, few, counts); small_expanded = omega (arith, few, counts); small_last = l }

  pub strategy-fits : FitsStrategy call.answer
  unfolding solve_part
  strategy-fits = by call.answer refl
    where
      by : (a : StrategyAnswer) → call.answer ≡ a → FitsStrategy a
      by (strategy_refused n i) h = subst FitsSolved (solves h) (solve-fits f b first second)
      by (strategy_stopped x settled expanded) h =
          let e = solves h in
          let few = few_variables (not_refused F b first second (λ n i k. let z : ◌≡◌ {A = ℕ} 0 1 = cc in omega arith)) in
          let counts = (solve_stopped F b first second x settled expanded e).1.counts in
          let small = subst FitsSolved e (solve-fits f b first second) in
          record {
            small_settled = omega (arith, few, counts);
            small_expanded = omega (arith, few, counts);
            small_last = omega (arith, small.small_variable);
          }
      by (strategy_written v settled expanded n) h =
          let c = strategy_comes_from F b first second out v settled expanded n h in
          let ok = (strategy_sheet F b first second out (sound f) v settled expanded n h).1.is_accepted in
          counted (solves h) (omega (arith, c.is_length, ap length c.at_front, short f (take n call.output) ok))
      by (strategy_too_long v settled expanded n) h =
          counted (solves h) (rows_small f (strategy-rows_most F b first second out v settled expanded n h))

-- truth

module _ (F : sheet.Format) (b : Bytes) (w : Winning) (fit : FitsStrategy w.answer) (truthful : TruthfulStrategy F b w) where
  abbrev m : ℕ
  m = packed_strategy w.answer

  -- the answer by its number's parts
  says : {a : StrategyAnswer} → unpacked_strategy m ≡ a → w.answer ≡ a
  says e = sym (unpack_strategy w.answer fit) ∙ e

  pub told_strategy : ToldStrategy F b m w.first w.output
  told_strategy =
      record {
        on_written = λ v z k. truthful.on_written v (settled_of m) (expanded_of m) (last_of m) (says (written v z k));
        on_too_long = λ v z k. truthful.on_too_long v (settled_of m) (expanded_of m) (last_of m) (says (too_long v z k));
        on_stopped = λ z k. truthful.on_stopped (last_of m) (settled_of m) (expanded_of m) (says (rw (eq-eqb _ 0 z, k)));
      }
    where
      written : (v : Bool) → number_of m ≡ 0 → word_of m ≡ verdict_word v
          → unpacked_strategy m ≡ strategy_written v (settled_of m) (expanded_of m) (last_of m)
      written true z k = rw (eq-eqb _ 0 z, k)
      written false z k = rw (eq-eqb _ 0 z, k)

      too_long : (v : Bool) → number_of m ≡ 0 → word_of m ≡ 3 + verdict_word v
          → unpacked_strategy m ≡ strategy_too_long v (settled_of m) (expanded_of m) (last_of m)
      too_long true z k = rw (eq-eqb _ 0 z, k)
      too_long false z k = rw (eq-eqb _ 0 z, k)

-- what packing returns beside what the operation answers and leaves
pub winning-joined : {r : ℕ} {w call : Winning} → r ≡ packed_strategy w.answer → w ≡ call
    → ◌≡◌ {A = Returned} (record { number = r; first = w.first; second = w.second; output = w.output }) (packed_winning call)
winning-joined {w = w} p e =
    ap (λ (n : ℕ). record { number = n; first = w.first; second = w.second; output = w.output }) p ∙ ap packed_winning e

pub strategy_told : (f : Format) (b first second out : Bytes) {o : Returned} → o ≡ packed_winning (strategy_call (format_of f) b first second out)
    → (o ≡ packed_winning (strategy_call (format_of f) b first second out)) × ToldStrategy (format_of f) b o.number o.first o.output
strategy_told f b first second out e = (
  e,
  subst (λ (o : Returned). ToldStrategy (format_of f) b o.number o.first o.output) (sym e)
      (told_strategy (format_of f) b (strategy_call (format_of f) b first second out) (strategy-fits f b first second out)
      (strategy_truthful (format_of f) (sound f) b first second out refl)),
)
