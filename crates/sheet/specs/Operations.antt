-- Every operation's answer and the final bytes of its outputs, as functions of all its inputs.
-- Assumes nothing.
use Rattle.std.specs.Prelude.{Bool, true, false, not, ◌&&◌, cond, List, [], ◌∷◌, ◌++◌, ℕ, zero, suc, ◌+◌, ◌-◌, min, ltb, length, take, drop, replicate}
use Rattle.std.proofs.Math.Option.{get_or}
use Rattle.formula.specs.Tree.{of, binds}
use Rattle.formula.specs.Tidy.{tidied, is_tidy, first_fault}
use Rattle.formula.specs.Settle.{may_settle, settled}
use Rattle.formula.specs.Expand.{innermost, raw_rows, expanded}
use Rattle.formula.specs.Solve.{State, End, ended, stopped, Run, is_some, fits_raw, solve}
use Rattle.formula.specs.Trial.{Tried, trial}
use Rattle.formula.specs.Reduce.{in_profile, reduced}
use Rattle.sheet.specs.Format.{Bytes, Format, Row, sheet_length, fits, variables, nodes, kind_bytes, all_rows, children}
use Rattle.sheet.specs.Sheet.{formula, sheet}
use Rattle.sheet.specs.Refusals.{not_tidy, not_in_prefix, wrong_block, not_settled, no_room, too_many_to_try, above_ceiling, no_clauses}
use Rattle.sheet.specs.Check.{Answer, refused, accepted, Test, test, answer, passes, check_tests}

-- the bytes at the front of an output, with zeros behind them
unfoldable pub padded : ℕ → Bytes → Bytes
padded n b = b ++ replicate (n - length b) 0

-- An operation that writes a sheet: its answer, the new sheet's length if accepted, and what the output then holds.
pub record Written : Type 0 where
  pub answer : Answer ℕ
  pub output : Bytes

-- refusing alters no byte of an output
unfoldable pub output_after : Answer ℕ → Bytes → Bytes → Bytes
output_after (refused n i) new out = out
output_after (accepted n) new out = padded (length out) new

unfoldable pub write : List Test → Bytes → Bytes → Written
write tests new out = record { answer = answer tests (length new); output = output_after (answer tests (length new)) new out }

-- Tidy: 1 to 8; 13 output shorter than the sheet
unfoldable pub tidy_tests : Format → Bytes → ℕ → List Test
tidy_tests F b len = check_tests F b ++ (test (ltb len (length b)) no_room 0 ∷ [])

unfoldable pub tidy_call : Format → Bytes → Bytes → Written
tidy_call F b out = write (tidy_tests F b (length out)) (sheet F (tidied (formula F b))) out

-- 9 not tidy, at the row of the first operator at fault
abbrev pub tidiness_test : Format → Bytes → Test
tidiness_test F b = test (not (is_tidy (formula F b).matrix)) not_tidy (variables F b + first_fault (formula F b).matrix)

-- 9; 10 x not in the prefix
unfoldable pub tidy_and_bound_tests : Format → Bytes → ℕ → List Test
tidy_and_bound_tests F b x = tidiness_test F b ∷ test (not (binds (formula F b).prefix x)) not_in_prefix 0 ∷ []

-- Settle: 1 to 8; 9; 10; 12 may not be settled; 13 output shorter than 4 + 3 times (V-1+N)
unfoldable pub settle_tests : Format → Bytes → ℕ → ℕ → List Test
settle_tests F b x len =
    check_tests F b ++ tidy_and_bound_tests F b x ++
    (test (not (is_some (may_settle x (formula F b)))) not_settled 0 ∷
    test (ltb len (sheet_length F (variables F b - 1) (nodes F b))) no_room 0 ∷
    [])

unfoldable pub settle_call : Format → Bytes → ℕ → Bytes → Written
settle_call F b x out =
    write (settle_tests F b x (length out)) (sheet F (settled x (get_or (may_settle x (formula F b)) false) (formula F b))) out

-- Quote (N7): 1 to 8; 9; 10; 11 x not in the innermost block
unfoldable pub quote_tests : Format → Bytes → ℕ → List Test
quote_tests F b x = check_tests F b ++ tidy_and_bound_tests F b x ++ (test (not (innermost x (formula F b))) wrong_block 0 ∷ [])

-- the raw row count of the expansion of x
abbrev pub raw_count : Format → Bytes → ℕ → ℕ
raw_count F b x = raw_rows (of x) (formula F b).matrix

unfoldable pub quote_call : Format → Bytes → ℕ → Answer ℕ
quote_call F b x = answer (quote_tests F b x) (raw_count F b x)

-- 13 the raw sheet doesn't fit
abbrev pub raw_room_test : Format → Bytes → ℕ → ℕ → Test
raw_room_test F b x len = test (not (fits_raw (fits F len) x (formula F b))) no_room 0

-- Expand: the quote's tests; 13
unfoldable pub expand_tests : Format → Bytes → ℕ → ℕ → List Test
expand_tests F b x len = quote_tests F b x ++ (raw_room_test F b x len ∷ [])

unfoldable pub expand_call : Format → Bytes → ℕ → Bytes → Written
expand_call F b x out = write (expand_tests F b x (length out)) (sheet F (expanded x (formula F b))) out

-- Execute (N7) carries out a quote: the quote's tests; 19 the raw count is above the ceiling; 13
unfoldable pub execute_tests : Format → Bytes → ℕ → ℕ → ℕ → List Test
execute_tests F b x ceiling len =
    quote_tests F b x ++ (test (ltb ceiling (raw_count F b x)) above_ceiling 0 ∷ raw_room_test F b x len ∷ [])

unfoldable pub execute_call : Format → Bytes → ℕ → ℕ → Bytes → Written
execute_call F b x ceiling out = write (execute_tests F b x ceiling (length out)) (sheet F (expanded x (formula F b))) out

-- Reduce (N8): 1 to 8; 9; 20 not of the clause profile; 13 output shorter than the sheet
unfoldable pub reduce_tests : Format → Bytes → ℕ → List Test
reduce_tests F b len =
    check_tests F b ++
    (tidiness_test F b ∷ test (not (in_profile (formula F b).matrix)) no_clauses 0 ∷ test (ltb len (length b)) no_room 0 ∷ [])

unfoldable pub reduce_call : Format → Bytes → Bytes → Written
reduce_call F b out = write (reduce_tests F b (length out)) (sheet F (reduced (formula F b))) out

-- Solve: refused with number and place, stopped at a variable, or ended with a verdict; the latter two with the number settled and
-- the number expanded
pub data Solved : Type 0 where
  is_refused : ℕ → ℕ → Solved
  is_stopped : ℕ → ℕ → ℕ → Solved
  is_ended : Bool → ℕ → ℕ → Solved

pub record Solving : Type 0 where
  pub answer : Solved
  pub first : Bytes
  pub second : Bytes

unfoldable pub solved : End → State → Solved
solved (ended v) s = is_ended v s.settles s.expands
solved (stopped x) s = is_stopped x s.settles s.expands

-- the first buffer ends with the sheet reached and zeros, the second with zeros alone
unfoldable pub solving : Format → Bytes → Bytes → Answer Run → Solving
solving F first second (refused n i) = record { answer = is_refused n i; first = first; second = second }
solving F first second (accepted r) =
    record {
      answer = solved r.end r.state;
      first = padded (length first) (sheet F r.state.formula);
      second = replicate (length second) 0;
    }

-- 1 to 8; 13 a work buffer shorter than the sheet
unfoldable pub solve_call : Format → Bytes → Bytes → Bytes → Solving
solve_call F b first second =
    let shorter = min (length first) (length second) in
    solving F first second (answer (tidy_tests F b shorter) (solve (fits F shorter) (formula F b)))

-- Trial: 1 to 8; 14 V above 20
unfoldable pub trial_call : Format → Bytes → Answer Tried
trial_call F b = answer (check_tests F b ++ (test (ltb 20 (variables F b)) too_many_to_try 0 ∷ [])) (trial (formula F b))

-- the rows of a subtree: as many as pay the debt of one node
unfoldable pub span : ℕ → List Row → ℕ
span zero [] = 0
span zero (r ∷ rs) = 0
span (suc owed) [] = 0
span (suc owed) (r ∷ rs) = suc (span (owed + children r) rs)

-- Part: the kind bytes that the subtree covers, or none if the sheet or the node is bad
unfoldable pub part_call : Format → Bytes → ℕ → Bytes
part_call F b i =
    cond (passes (check_tests F b) && ltb i (nodes F b))
    (take (span 1 (drop (variables F b + i) (all_rows F b))) (drop (variables F b + i) (kind_bytes F b))) []

-- the program's line: a word; settled; expanded; then 0, the variable stopped at, or the refusal number
pub data Word : Type 0 where
  says-true says-false says-stopped says-refused : Word

pub record Line : Type 0 where
  pub word : Word
  pub settled : ℕ
  pub expanded : ℕ
  pub last : ℕ

abbrev pub line : Word → ℕ → ℕ → ℕ → Line
line w s e n = record { word = w; settled = s; expanded = e; last = n }

abbrev pub verdict_word : Bool → Word
verdict_word true = says-true
verdict_word false = says-false

unfoldable pub line_of : Solved → Line
line_of (is_refused n i) = line says-refused 0 0 n
line_of (is_stopped x s e) = line says-stopped s e x
line_of (is_ended v s e) = line (verdict_word v) s e 0

-- accepted with a sheet, which the output then holds
abbrev pub holds : Bytes → Bytes → Written
holds b out = record { answer = accepted (length b); output = padded (length out) b }
