-- Strategy on sheets: Solve's own answer and buffers, the strategy's sheet read back and right, zeros where none is written, and what longer
-- buffers keep.
-- Assumes nothing.
use mathlib.Core.Path.{◌≡◌, refl, sym, ◌∙◌, ap, ap₂, subst}
use mathlib.Core.Bool.{Bool, true, false, cond}
use Prim.Native.Nat.{ℕ, ◌-◌, ◌≤◌}
use native.Mathlib.Omega.{arith}
use lib.Dec.{leb}
use lib.ListN.{length, take, drop, replicate}
use lib.Seq.{take-append_seam, drop-append_seam}
use borrow.Author.Tests.{leb-true}
use Rattle.formula.specs.Tree.{Formula, Quantifier, rows}
use Rattle.formula.specs.Solve.{Fits}
use Rattle.formula.specs.Strategy.{Pairs, winner, WellFormed, StrategyRight, solve_strategy}
use Rattle.formula.specs.StrategyMatrix.{strategy_matrix, pairs_of}
use Rattle.formula.proofs.Booleans.{and_parts}
use Rattle.formula.proofs.Strategy.Wins.{solve_strategy_right}
use Rattle.formula.proofs.Strategy.Claim.{closed_matrix}
use Rattle.formula.proofs.Strategy.Matrix.{pairs_matrix}
use Rattle.sheet.specs.Format.{Bytes, Format, sheet_length, fits}
use Rattle.sheet.specs.Sheet.{formula, sheet}
use Rattle.sheet.specs.Check.{passes, check_tests}
use Rattle.sheet.specs.Operations.{padded, Solved, is_refused, is_stopped, is_ended, solve_call}
use Rattle.sheet.specs.Limits.{Sound, Within}
use Rattle.sheet.specs.Trace.{room}
use Rattle.sheet.specs.Strategy.{fits_output, strategy_refused, strategy_stopped, strategy_written, strategy_too_long, strategy_formula, winning, strategy_answer}
use Rattle.sheet.specs.Strategy.{strategy_output, Winning, strategy_call, solve_part, StrategySheet}
use Rattle.sheet.proofs.RoundTrip.{length-sheet, formula-sheet, passes-sheet}
use Rattle.sheet.proofs.Accepted.{accepted_within}
use Rattle.sheet.proofs.Refusals.{solve_refused}
use Rattle.sheet.proofs.Verdicts.{run_ended}

-- an answer taken apart, by the test of fit
module _ (F : Format) (out : Bytes) (g : Bool → Formula) where
  -- with the strategy left out it is Solve's
  solve_part_by : (s : Solved) → solve_part (strategy_answer F (length out) g s) ≡ s
  unfolding solve_part strategy_answer
  solve_part_by (is_refused n i) = refl
  solve_part_by (is_stopped x n m) = refl
  solve_part_by (is_ended v n m) = by (fits_output F (length out) (g v))
    where
      by : (c : Bool)
          → solve_part (cond c (strategy_written v n m (length (sheet F (g v)))) (strategy_too_long v n m (rows (g v).matrix))) ≡ is_ended v n m
      by true = refl
      by false = refl

  -- what a written strategy shows of answer and output
  record WrittenAs (s : Solved) (v : Bool) (settles expands n : ℕ) : Type 0 where
    ends : s ≡ is_ended v settles expands
    has_place : fits_output F (length out) (g v) ≡ true
    is_length : length (sheet F (g v)) ≡ n
    in_output : strategy_output F out g s ≡ padded (length out) (sheet F (g v))

  -- and an answer without one
  record LeftOut (s : Solved) (v : Bool) (settles expands n : ℕ) : Type 0 where
    ends : s ≡ is_ended v settles expands
    no_place : fits_output F (length out) (g v) ≡ false
    are_rows : rows (g v).matrix ≡ n
    in_output : strategy_output F out g s ≡ replicate (length out) 0

  written_as : (s : Solved) (v : Bool) (settles expands n : ℕ) → strategy_answer F (length out) g s ≡ strategy_written v settles expands n
      → WrittenAs s v settles expands n
  unfolding strategy_answer strategy_output
  written_as (is_refused m i) v settles expands n h = let z : ◌≡◌ {A = ℕ} 0 1 = cc in absurd (omega arith)
  written_as (is_stopped x m k) v settles expands n h = let z : ◌≡◌ {A = ℕ} 0 1 = cc in absurd (omega arith)
  written_as (is_ended w m k) v settles expands n h = by (fits_output F (length out) (g w)) refl h
    where
      by : (c : Bool) → fits_output F (length out) (g w) ≡ c
          → cond c (strategy_written w m k (length (sheet F (g w)))) (strategy_too_long w m k (rows (g w).matrix)) ≡
          strategy_written v settles expands n
          → WrittenAs (is_ended w m k) v settles expands n
      by true e i =
          let same : w ≡ v = cc in
          let long : length (sheet F (g w)) ≡ n = cc in
          let counts : is_ended w m k ≡ is_ended v settles expands = cc in
          record {
            ends = counts;
            has_place = ap (λ (u : Bool). fits_output F (length out) (g u)) (sym same) ∙ e;
            is_length = ap (λ (u : Bool). length (sheet F (g u))) (sym same) ∙ long;
            in_output =
                ap (λ (c : Bool). cond c (padded (length out) (sheet F (g w))) (replicate (length out) 0)) e ∙
                ap (λ (u : Bool). padded (length out) (sheet F (g u))) same;
          }
      by false e i = let z : ◌≡◌ {A = ℕ} 0 1 = cc in absurd (omega arith)

  left_out : (s : Solved) (v : Bool) (settles expands n : ℕ) → strategy_answer F (length out) g s ≡ strategy_too_long v settles expands n
      → LeftOut s v settles expands n
  unfolding strategy_answer strategy_output
  left_out (is_refused m i) v settles expands n h = let z : ◌≡◌ {A = ℕ} 0 1 = cc in absurd (omega arith)
  left_out (is_stopped x m k) v settles expands n h = let z : ◌≡◌ {A = ℕ} 0 1 = cc in absurd (omega arith)
  left_out (is_ended w m k) v settles expands n h = by (fits_output F (length out) (g w)) refl h
    where
      by : (c : Bool) → fits_output F (length out) (g w) ≡ c
          → cond c (strategy_written w m k (length (sheet F (g w)))) (strategy_too_long w m k (rows (g w).matrix)) ≡
          strategy_too_long v settles expands n
          → LeftOut (is_ended w m k) v settles expands n
      by true e i = let z : ◌≡◌ {A = ℕ} 0 1 = cc in absurd (omega arith)
      by false e i =
          let same : w ≡ v = cc in
          let many : rows (g w).matrix ≡ n = cc in
          let counts : is_ended w m k ≡ is_ended v settles expands = cc in
          record {
            ends = counts;
            no_place = ap (λ (u : Bool). fits_output F (length out) (g u)) (sym same) ∙ e;
            are_rows = ap (λ (u : Bool). rows (g u).matrix) (sym same) ∙ many;
            in_output = ap (λ (c : Bool). cond c (padded (length out) (sheet F (g w))) (replicate (length out) 0)) e;
          }

-- a strategy within the limits
pub within-strategy : (F : Format) (q : Quantifier) (f : Formula) (g : Pairs) → Within F f → WellFormed q f.prefix g
    → rows (strategy_matrix g) ≤ F.most_nodes → Within F (strategy_formula f.prefix g)
unfolding strategy_formula
within-strategy F q f g w well few =
    record {
      few_variables = w.few_variables;
      few_nodes = few;
      is_numbered = w.is_numbered;
      is_distinct = w.is_distinct;
      is_closed = closed_matrix q f.prefix g well;
    }

-- a formula that fits has few enough rows, and its sheet is short enough
pub fits-rows : (F : Format) (len : ℕ) (f : Formula) → fits_output F len f ≡ true → rows f.matrix ≤ F.most_nodes
unfolding fits
fits-rows F len f h =
    leb-true (rows f.matrix) F.most_nodes
    (and_parts (leb (rows f.matrix) F.most_nodes) (leb (sheet_length F (length f.prefix) (rows f.matrix)) len) h).0

pub fits-length : (F : Format) (len : ℕ) (f : Formula) → fits_output F len f ≡ true → length (sheet F f) ≤ len
unfolding fits
fits-length F len f h =
    let long = sheet_length F (length f.prefix) (rows f.matrix) in
    let parts = and_parts (leb (rows f.matrix) F.most_nodes) (leb long len) h in
    omega (arith, length-sheet F f, leb-true long len parts.1)

module _ (F : Format) (b first second out : Bytes) where
  abbrev call : Winning
  call = strategy_call F b first second out

  abbrev its_fits : Fits
  its_fits = fits F (room first second)

  abbrev its_pairs : Bool → Pairs
  its_pairs v = solve_strategy its_fits (winner v) (formula F b)

  abbrev its_formula : Bool → Formula
  its_formula = winning its_fits (formula F b)

  -- Solve's answer and both its buffers
  pub strategy_solves :
      (solve_part call.answer ≡ (solve_call F b first second).answer) × (call.first ≡ (solve_call F b first second).first) ×
      (call.second ≡ (solve_call F b first second).second)
  unfolding strategy_call
  strategy_solves = (solve_part_by F out its_formula (solve_call F b first second).answer, refl, refl)

  -- refusing alters no byte
  pub strategy_keeps : (n i : ℕ) → call.answer ≡ strategy_refused n i
      → (call.output ≡ out) × (call.first ≡ first) × (call.second ≡ second)
  unfolding strategy_call solve_part strategy_output
  strategy_keeps n i h =
      let refuses : (solve_call F b first second).answer ≡ is_refused n i = sym strategy_solves.0 ∙ ap solve_part h in
      let kept = solve_refused F b n i first second refuses in
      (ap (strategy_output F out its_formula) refuses, kept.0, kept.1)

  -- stopped, or without room, the output is zeros
  pub strategy_stops : (x settles expands : ℕ) → call.answer ≡ strategy_stopped x settles expands → call.output ≡ replicate (length out) 0
  unfolding strategy_call solve_part strategy_output
  strategy_stops x settles expands h = ap (strategy_output F out its_formula) (sym strategy_solves.0 ∙ ap solve_part h)

  pub strategy-without-room : (v : Bool) (settles expands n : ℕ) → call.answer ≡ strategy_too_long v settles expands n
      → (call.output ≡ replicate (length out) 0) × (fits_output F (length out) (its_formula v) ≡ false) ×
      (n ≡ rows (strategy_matrix (its_pairs v)))
  unfolding strategy_call strategy_formula
  strategy-without-room v settles expands n h =
      let l = left_out F out its_formula (solve_call F b first second).answer v settles expands n h in
      (l.in_output, l.no_place, sym l.are_rows)

  -- What a strategy written comes from: Solve ended with this verdict, so its run's pairs are right, and their sheet has its place.
  pub record ComesFrom (v : Bool) (settles expands n : ℕ) : Type 0 where
    pub solve_ends : (solve_call F b first second).answer ≡ is_ended v settles expands
    pub is_checked : passes (check_tests F b) ≡ true
    pub is_right : StrategyRight (winner v) (formula F b) (its_pairs v)
    pub has_place : fits_output F (length out) (its_formula v) ≡ true
    pub is_length : n ≡ length (sheet F (its_formula v))
    pub within : Within F (its_formula v)
    pub at_front : take n call.output ≡ sheet F (its_formula v)
    pub zeros_behind : drop n call.output ≡ replicate (length out - n) 0

  pub strategy_comes_from : (v : Bool) (settles expands n : ℕ) → call.answer ≡ strategy_written v settles expands n
      → ComesFrom v settles expands n
  unfolding strategy_call padded strategy_formula
  strategy_comes_from v settles expands n h =
      let w = written_as F out its_formula (solve_call F b first second).answer v settles expands n h in
      let r = run_ended F b first second v settles expands w.ends in
      let f = accepted_within F b r.0 in
      let right = solve_strategy_right its_fits (formula F b) f.is_distinct f.is_closed v r.1 in
      let new = sheet F (its_formula v) in
      let zeros : Bytes = replicate (length out - length new) 0 in
      record {
        solve_ends = w.ends;
        is_checked = r.0;
        is_right = right;
        has_place = w.has_place;
        is_length = sym w.is_length;
        within =
            within-strategy F (winner v) (formula F b) (its_pairs v) f right.well_formed
            (fits-rows F (length out) (its_formula v) w.has_place);
        at_front = ap₂ take (sym w.is_length) w.in_output ∙ take-append_seam new zeros;
        zeros_behind = ap₂ drop (sym w.is_length) w.in_output ∙ drop-append_seam new zeros ∙ ap (λ k. replicate (length out - k) 0) w.is_length;
      }

  -- the sheet written is read back as it was, and its pairs are the run's
  pub strategy_sheet : Sound F → (v : Bool) (settles expands n : ℕ) → call.answer ≡ strategy_written v settles expands n
      → (formula F (take n call.output) ≡ its_formula v) × StrategySheet F (winner v) b (take n call.output)
  unfolding strategy_formula
  strategy_sheet sound v settles expands n h =
      let c = strategy_comes_from v settles expands n h in
      let back : formula F (sheet F (its_formula v)) ≡ its_formula v = formula-sheet F sound (its_formula v) c.within in (
        ap (formula F) c.at_front ∙ back,
        subst (StrategySheet F (winner v) b) (sym c.at_front)
            (record {
              is_accepted = passes-sheet F sound (its_formula v) c.within;
              same_prefix = ap (λ (k : Formula). k.prefix) back;
              pairs = its_pairs v;
              are_read = ap (λ (k : Formula). pairs_of k.matrix) back ∙ pairs_matrix (its_pairs v);
              is_right = c.is_right;
            }),
      )
