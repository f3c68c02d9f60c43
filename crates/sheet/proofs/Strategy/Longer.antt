-- Longer buffers, same strategy: a strategy that was written is written again, with the same verdict, counts and bytes.
-- Assumes nothing.
use mathlib.Core.Path.{◌≡◌, sym, ◌∙◌, ap}
use mathlib.Core.Bool.{Bool, cond}
use Prim.Native.Nat.{ℕ, ◌≤◌}
use native.Mathlib.Omega.{arith}
use lib.ListN.{length, take}
use Rattle.formula.specs.Tree.{Formula, rows}
use Rattle.formula.specs.Solve.{Fits}
use Rattle.formula.specs.Strategy.{winner}
use Rattle.formula.proofs.Strategy.Longer.{solve_strategy_longer}
use Rattle.sheet.specs.Format.{Bytes, Format, fits}
use Rattle.sheet.specs.Sheet.{formula, sheet}
use Rattle.sheet.specs.Trace.{room}
use Rattle.sheet.specs.Strategy.{fits_output, StrategyAnswer, strategy_written, strategy_too_long, strategy_formula, winning, strategy_answer, strategy_call}
use Rattle.sheet.proofs.Longer.{fits_looser, longer_room}
use Rattle.sheet.proofs.Verdicts.{run_ended}
use Rattle.sheet.proofs.Strategy.Winning.{strategy_comes_from}

module _ (F : Format) (b first second out first' second' out' : Bytes) (work : room first second ≤ room first' second')
    (output : length out ≤ length out') where
  pub strategy_longer : (v : Bool) (settles expands n : ℕ) → (strategy_call F b first second out).answer ≡ strategy_written v settles expands n
      → ((strategy_call F b first' second' out').answer ≡ strategy_written v settles expands n) ×
      (take n (strategy_call F b first' second' out').output ≡ take n (strategy_call F b first second out).output)
  unfolding strategy_call strategy_answer
  strategy_longer v settles expands n h =
      let c = strategy_comes_from F b first second out v settles expands n h in
      let here : Fits = fits F (room first second) in
      let there : Fits = fits F (room first' second') in
      let g : Bool → Formula = winning here (formula F b) in
      let g' : Bool → Formula = winning there (formula F b) in
      let looser = fits_looser F F (room first second) (room first' second') (omega arith) (λ m k l. omega arith) in
      let run = run_ended F b first second v settles expands c.solve_ends in
      let same : g' v ≡ g v
      = ap (strategy_formula (formula F b).prefix) (solve_strategy_longer here there looser (winner v) (formula F b) v run.1) in
      let ends = ((longer_room F b first second first' second' work).on_ended v settles expands c.solve_ends).same_answer in
      let fit = fits_looser F F (length out) (length out') (omega arith) (λ m k l. omega arith) _ _ c.has_place in
      let told : Bool → Formula → StrategyAnswer
      = λ m k. cond m (strategy_written v settles expands (length (sheet F k))) (strategy_too_long v settles expands (rows k.matrix)) in
      let answers : (strategy_call F b first' second' out').answer ≡ strategy_written v settles expands n
      = ap (strategy_answer F (length out') g') ends ∙ ap (λ (k : Formula). told (fits_output F (length out') k) k) same ∙
      ap (λ (m : Bool). told m (g v)) fit ∙ ap (strategy_written v settles expands) (sym c.is_length) in
      let c' = strategy_comes_from F b first' second' out' v settles expands n answers in
      (answers, c'.at_front ∙ ap (sheet F) same ∙ sym c.at_front)
