-- How large the numbers of the answers get: a sheet that is written is no longer than the output nor than the largest sheet, and the rows
-- that a strategy without room needs are at most one more than the most variables times two more than the most nodes.
-- Assumes nothing.
use mathlib.Core.Path.{◌≡◌, sym, ◌∙◌, ap}
use mathlib.Core.Bool.{Bool, true}
use Prim.Native.Nat.{ℕ, suc, ◌+◌, ◌*◌, ◌≤◌}
use native.Mathlib.Nat.{mul-le-mul_right}
use native.Mathlib.Omega.{arith}
use lib.Dec.{leb}
use lib.ListN.{length}
use borrow.Author.Tests.{leb-true}
use Rattle.formula.specs.Strategy.{winner}
use Rattle.formula.proofs.Booleans.{and_parts}
use Rattle.formula.proofs.Strategy.Size.{rows-solve_strategy}
use Rattle.sheet.specs.Format.{Bytes, Format, sheet_length, fits}
use Rattle.sheet.specs.Sheet.{formula}
use Rattle.sheet.specs.Check.{passes, check_tests}
use Rattle.sheet.specs.Trace.{room}
use Rattle.sheet.specs.Strategy.{strategy_written, strategy_too_long, winning, strategy_call, solve_part}
use Rattle.sheet.proofs.Placed.{sheet_length-least}
use Rattle.sheet.proofs.Accepted.{accepted_length, accepted_nodes, accepted_variables, accepted_within}
use Rattle.sheet.proofs.Verdicts.{run_ended}
use Rattle.sheet.proofs.Strategy.Winning.{fits-length, strategy_solves, strategy-without-room, strategy_comes_from}

-- no sheet that Check accepts is longer than the format's largest: so none that Response, Strategy or Claim writes is
pub accepted_most : (F : Format) (b : Bytes) → passes (check_tests F b) ≡ true → length b ≤ sheet_length F F.most_variables F.most_nodes
accepted_most F b h =
    let w = accepted_within F b h in
    let least = sheet_length-least F (few (accepted_variables F b h) w.few_variables) (few (accepted_nodes F b h) w.few_nodes) in
    omega (arith, accepted_length F b h, least)
  where
    few : {k l m : ℕ} → k ≡ l → k ≤ m → l ≤ m
    few e h = omega arith

module _ (F : Format) (b first second out : Bytes) (v : Bool) (settles expands n : ℕ) where
  pub strategy_placed : (strategy_call F b first second out).answer ≡ strategy_written v settles expands n → n ≤ length out
  strategy_placed h =
      let c = strategy_comes_from F b first second out v settles expands n h in
      omega (arith, c.is_length, fits-length F (length out) (winning (fits F (room first second)) (formula F b) v) c.has_place)

  few_rows : (v k : ℕ) → fits F (room first second) v k ≡ true → k ≤ F.most_nodes
  unfolding fits
  few_rows v k h = leb-true k F.most_nodes (and_parts (leb k F.most_nodes) (leb (sheet_length F v k) (room first second)) h).0

  pub strategy-rows_most : (strategy_call F b first second out).answer ≡ strategy_too_long v settles expands n
      → n ≤ suc (F.most_variables * (2 + F.most_nodes))
  unfolding solve_part
  strategy-rows_most h =
      let ends = sym (strategy_solves F b first second out).0 ∙ ap solve_part h in
      let w = accepted_within F b (run_ended F b first second v settles expands ends).0 in
      let f = formula F b in
      omega (
        arith,
        (strategy-without-room F b first second out v settles expands n h).2,
        rows-solve_strategy (fits F (room first second)) F.most_nodes few_rows (winner v) f w.is_distinct w.is_closed w.few_nodes,
        mul-le-mul_right (2 + F.most_nodes) w.few_variables,
      )
