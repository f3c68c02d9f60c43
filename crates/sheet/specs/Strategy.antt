-- Response, Strategy and Claim on bytes (Strategy 1): refusals, answers and final bytes, and what is relied on of them.
-- Assumes nothing.
use Rattle.std.specs.Prelude.{◌≡◌, Bool, true, false, not, ◌&&◌, ◌||◌, cond, List, [], ◌∷◌, ◌++◌, ◌↔◌, ℕ, suc, ◌+◌, ◌-◌, ◌≤◌, eqb, length, replicate}
use Rattle.std.proofs.Math.Option.{Option, none, some, get_or}
use Rattle.formula.specs.Tree.{Quantifier, dual, same_op, Tree, Prefix, Formula, of, quantifier_of, without, rows, rows_all}
use Rattle.formula.specs.Truth.{Assignment, put, join, eval, truth}
use Rattle.formula.specs.Tidy.{is_tidy}
use Rattle.formula.specs.Settle.{may_settle}
use Rattle.formula.specs.Expand.{all_of, innermost}
use Rattle.formula.specs.Solve.{is_some, Fits}
use Rattle.formula.specs.Force.{wanted}
use Rattle.formula.specs.Strategy.{Pair, Pairs, winner, Wins, play, relevant_subtree, function_of, solve_strategy, is_covering, reads, beyond, in_order, WellFormed}
use Rattle.formula.specs.Strategy.{StrategyRight}
use Rattle.formula.specs.StrategyMatrix.{pair_trees, strategy_matrix, pairs_of}
use Rattle.formula.specs.Claim.{claim}
use Rattle.sheet.specs.Format.{Bytes, Format, fits, variables}
use Rattle.sheet.specs.Sheet.{formula, sheet}
use Rattle.sheet.specs.Refusals.{wrong_block, no_room, not_a_strategy, reads_beyond}
use Rattle.sheet.specs.Check.{Answer, refused, accepted, Test, test, answer, passes, check_tests}
use Rattle.sheet.specs.Operations.{padded, Written, write, tidy_and_bound_tests, Solved, is_refused, is_stopped, is_ended, solve_call}
use Rattle.sheet.specs.Trace.{room}

-- a formula's sheet fits: its rows the format, its length the output
abbrev pub fits_output : Format → ℕ → Formula → Bool
fits_output F len f = fits F len (length f.prefix) (rows f.matrix)

-- Response

-- the function of x as a formula: the prefix without the row of x, and the function's tree
unfoldable pub response : ℕ → Formula → Formula
response x f = record { prefix = without x f.prefix; matrix = function_of x f }

-- the rows written before tidying: one, the constant, if x may be settled; else those of the relevant subtree, one for a literal alone and
-- 1 plus the relevant children's else
unfoldable pub response_rows : ℕ → Tree → Option Bool → ℕ
response_rows x t (some b) = 1
response_rows x t none = rows (relevant_subtree (of x) t)

-- does the raw sheet of the function fit? It has one variable less.
unfoldable pub fits_response : Fits → ℕ → Formula → Bool
fits_response fits x f = fits (length f.prefix - 1) (response_rows x f.matrix (may_settle x f))

-- 1 to 8; 9; 10; 11 x may neither be settled nor is in the innermost block; 13 the raw sheet doesn't fit
unfoldable pub response_tests : Format → Bytes → ℕ → ℕ → List Test
response_tests F b x len =
    check_tests F b ++ tidy_and_bound_tests F b x ++
    (test (not (is_some (may_settle x (formula F b)) || innermost x (formula F b))) wrong_block 0 ∷
    test (not (fits_response (fits F len) x (formula F b))) no_room 0 ∷
    [])

unfoldable pub response_call : Format → Bytes → ℕ → Bytes → Written
response_call F b x out = write (response_tests F b x (length out)) (sheet F (response x (formula F b))) out

-- What an accepted Response leaves at the front of the output: a tidy sheet of the prefix without x, with no more rows; with its value for
-- x the matrix is what its owner can make of it, true with 0 or with 1 for exists, with both for all.
pub record Responds (F : Format) (b : Bytes) (x : ℕ) (b' : Bytes) : Type 0 where
  pub is_accepted : passes (check_tests F b') ≡ true
  pub is_response : formula F b' ≡ response x (formula F b)
  pub is_neat : is_tidy (formula F b').matrix ≡ true
  pub no_more_rows : rows (formula F b').matrix ≤ rows (formula F b).matrix
  pub is_best : (ρ : Assignment)
      → eval (formula F b).matrix (put ρ x (eval (formula F b').matrix ρ)) ≡
      join (quantifier_of (formula F b).prefix x) (eval (formula F b).matrix (put ρ x false)) (eval (formula F b).matrix (put ρ x true))

-- Strategy

-- refused with number and place, and stopped at a variable, as Solve; ended with a verdict, its counts and the length of the strategy's
-- sheet; or with how many node rows that sheet has, if it doesn't fit
pub data StrategyAnswer : Type 0 where
  strategy_refused : ℕ → ℕ → StrategyAnswer
  strategy_stopped : ℕ → ℕ → ℕ → StrategyAnswer
  strategy_written : Bool → ℕ → ℕ → ℕ → StrategyAnswer
  strategy_too_long : Bool → ℕ → ℕ → ℕ → StrategyAnswer

-- a strategy as a formula: the first prefix; OR of one AND for each pair
unfoldable pub strategy_formula : Prefix → Pairs → Formula
strategy_formula p g = record { prefix = p; matrix = strategy_matrix g }

-- the strategy of the side that a verdict says wins
abbrev pub winning : Fits → Formula → Bool → Formula
winning fits f v = strategy_formula f.prefix (solve_strategy fits (winner v) f)

unfoldable pub strategy_answer : Format → ℕ → (Bool → Formula) → Solved → StrategyAnswer
strategy_answer F len g (is_refused n i) = strategy_refused n i
strategy_answer F len g (is_stopped x s e) = strategy_stopped x s e
strategy_answer F len g (is_ended v s e) =
    cond (fits_output F len (g v)) (strategy_written v s e (length (sheet F (g v)))) (strategy_too_long v s e (rows (g v).matrix))

-- refused, no byte changes; without a strategy the output is zeros
unfoldable pub strategy_output : Format → Bytes → (Bool → Formula) → Solved → Bytes
strategy_output F out g (is_refused n i) = out
strategy_output F out g (is_stopped x s e) = replicate (length out) 0
strategy_output F out g (is_ended v s e) =
    cond (fits_output F (length out) (g v)) (padded (length out) (sheet F (g v))) (replicate (length out) 0)

pub record Winning : Type 0 where
  pub answer : StrategyAnswer
  pub first : Bytes
  pub second : Bytes
  pub output : Bytes

-- Solve's own call, and the strategy of its run
unfoldable pub strategy_call : Format → Bytes → Bytes → Bytes → Bytes → Winning
strategy_call F b first second out =
    let s = solve_call F b first second in
    let g = winning (fits F (room first second)) (formula F b) in
    record {
      answer = strategy_answer F (length out) g s.answer;
      first = s.first;
      second = s.second;
      output = strategy_output F out g s.answer;
    }

-- what Solve answers
unfoldable pub solve_part : StrategyAnswer → Solved
solve_part (strategy_refused n i) = is_refused n i
solve_part (strategy_stopped x s e) = is_stopped x s e
solve_part (strategy_written v s e n) = is_ended v s e
solve_part (strategy_too_long v s e n) = is_ended v s e

-- The bytes s are a strategy of the side q for the sheet b: Check accepts them, they have its prefix, and the pairs read off them win.
pub record StrategySheet (F : Format) (q : Quantifier) (b s : Bytes) : Type 0 where
  pub is_accepted : passes (check_tests F s) ≡ true
  pub same_prefix : (formula F s).prefix ≡ (formula F b).prefix
  pub pairs : Pairs
  pub are_read : pairs_of (formula F s).matrix ≡ some pairs
  pub is_right : StrategyRight q (formula F b) pairs

-- Claim

-- refused for the first sheet (1), for the strategy's (2), or for the output (0), with number and place; or the length of the sheet written
pub data Claimed : Type 0 where
  claim_refused : ℕ → ℕ → ℕ → Claimed
  claim_written : ℕ → Claimed

pub record Claiming : Type 0 where
  pub answer : Claimed
  pub output : Bytes

-- the same rows
unfoldable pub equal_prefix : Prefix → Prefix → Bool
equal_prefix [] [] = true
equal_prefix [] (y ∷ r) = false
equal_prefix (z ∷ p) [] = false
equal_prefix (z ∷ p) (y ∷ r) = same_op z.quantifier y.quantifier && (eqb z.variable y.variable && equal_prefix p r)

-- The row of the pair at fault, if the first pair's AND is row i: of the pairs that read what they may not, the last. A pair has its AND,
-- its literal and the rows of its function.
unfoldable pub fault_row : Quantifier → Prefix → ℕ → Pairs → ℕ
fault_row q p i [] = i
fault_row q p i (c ∷ g) = cond (in_order q p g) i (fault_row q p (i + (2 + rows c.function)) g)

-- The pair at fault: it reads what it may not, those behind it don't, and its row is behind those of the pairs in front of it.
pub record AtFault (q : Quantifier) (p : Prefix) (i : ℕ) (g : Pairs) : Type 0 where
  pub in_front : Pairs
  pub pair : Pair
  pub behind : Pairs
  pub are_pairs : g ≡ in_front ++ (pair ∷ behind)
  pub reads_so : reads (beyond q p pair.variable) (pair ∷ behind) pair.variable ≡ true
  pub behind_ordered : in_order q p behind ≡ true
  pub at_row : fault_row q p i g ≡ i + rows_all (pair_trees in_front)

-- 26 not pairs that cover exactly the side's variables; 27 a function reads what it may not
unfoldable pub pair_tests : Quantifier → Prefix → ℕ → Option Pairs → List Test
pair_tests q p i none = test true not_a_strategy 0 ∷ []
pair_tests q p i (some g) =
    test (not (is_covering q p g)) not_a_strategy 0 ∷ test (not (in_order q p g)) reads_beyond (fault_row q p i g) ∷ []

-- of the strategy's sheet: 1 to 8; 26 not the first sheet's prefix; 26 and 27 of its pairs, whose first row is behind the root
unfoldable pub strategy_tests : Format → Bytes → Quantifier → Bytes → List Test
strategy_tests F b q s =
    check_tests F s ++
    (test (not (equal_prefix (formula F b).prefix (formula F s).prefix)) not_a_strategy 0 ∷
    pair_tests q (formula F b).prefix (suc (variables F s)) (pairs_of (formula F s).matrix))

-- the claim that the pairs read off a sheet win
unfoldable pub claim_formula : Format → Bytes → Quantifier → Bytes → Formula
claim_formula F b q s = claim q (formula F b) (get_or (pairs_of (formula F s).matrix) [])

unfoldable pub of_sheet : ℕ → Answer Claimed → Claimed
of_sheet which (refused n i) = claim_refused which n i
of_sheet which (accepted c) = c

-- 1 to 8 of the first sheet; the tests of the strategy's; 13 the claim doesn't fit
unfoldable pub claim_answer : Format → Bytes → Quantifier → Bytes → ℕ → Claimed
claim_answer F b q s len =
    let new = claim_formula F b q s in
    let written = of_sheet 0 (answer (test (not (fits_output F len new)) no_room 0 ∷ []) (claim_written (length (sheet F new)))) in
    of_sheet 1 (answer (check_tests F b) (of_sheet 2 (answer (strategy_tests F b q s) written)))

-- refused, no byte changes
unfoldable pub claim_output : Claimed → Bytes → Bytes → Bytes
claim_output (claim_refused which n i) new out = out
claim_output (claim_written n) new out = padded (length out) new

unfoldable pub claim_call : Format → Bytes → Quantifier → Bytes → Bytes → Claiming
claim_call F b q s out =
    let a = claim_answer F b q s (length out) in
    record { answer = a; output = claim_output a (sheet F (claim_formula F b q s)) out }

-- What a claim c, written for a sheet b, a side and a strategy's sheet s, shows: it is a sheet of one quantifier that Check accepts; the
-- pairs read off s are a strategy of that side, and they win exactly if the claim has the truth that the side wants, which is then b's too.
pub record Claims (F : Format) (b : Bytes) (q : Quantifier) (s c : Bytes) : Type 0 where
  pub is_accepted : passes (check_tests F c) ≡ true
  pub one_quantifier : all_of (dual q) (formula F c).prefix ≡ true
  pub same_prefix : (formula F s).prefix ≡ (formula F b).prefix
  pub pairs : Pairs
  pub are_read : pairs_of (formula F s).matrix ≡ some pairs
  pub is_claim : formula F c ≡ claim q (formula F b) pairs
  pub well_formed : WellFormed q (formula F b).prefix pairs
  pub exactly_if : (truth (formula F c) ≡ wanted q) ↔ Wins q (formula F b) (play pairs)
  pub shows_truth : truth (formula F c) ≡ wanted q → truth (formula F b) ≡ wanted q
