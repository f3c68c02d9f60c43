-- Decide on bytes: refusals, answer and final buffers; the stack holds the sheets that wait.
-- Assumes nothing.
use Rattle.std.specs.Prelude.{Bool, ℕ, ◌/◌, length, replicate}
use Rattle.formula.specs.Decide.{Outcome, decided, no_place, spent, Decision, decide}
use Rattle.sheet.specs.Format.{Bytes, Format, fits}
use Rattle.sheet.specs.Sheet.{formula}
use Rattle.sheet.specs.Check.{Answer, refused, accepted, answer}
use Rattle.sheet.specs.Operations.{tidy_tests}
use Rattle.sheet.specs.Trace.{room}

-- refused with number and place; ended with a verdict, no place left, or the budget spent, each with the number of runs
pub data DecideAnswer : Type 0 where
  decide_refused : ℕ → ℕ → DecideAnswer
  decide_ended : Bool → ℕ → DecideAnswer
  decide_no_place : ℕ → DecideAnswer
  decide_spent : ℕ → DecideAnswer

unfoldable pub decide_answer : Outcome → ℕ → DecideAnswer
decide_answer (decided v) runs = decide_ended v runs
decide_answer no_place runs = decide_no_place runs
decide_answer spent runs = decide_spent runs

pub record Deciding : Type 0 where
  pub answer : DecideAnswer
  pub first : Bytes
  pub second : Bytes
  pub stack : Bytes

-- "accepted, all three end as zeros; refused, no byte changes"
unfoldable pub deciding : Bytes → Bytes → Bytes → Answer Decision → Deciding
deciding first second stack (refused n i) = record { answer = decide_refused n i; first = first; second = second; stack = stack }
deciding first second stack (accepted d) =
    record {
      answer = decide_answer d.outcome d.runs;
      first = replicate (length first) 0;
      second = replicate (length second) 0;
      stack = replicate (length stack) 0;
    }

-- "places = its length / the shorter buffer's"; where that is empty there is none, and no sheet fits
abbrev pub places : ℕ → ℕ → ℕ
places len most = len / most

-- the search in buffers so long
abbrev pub decision : Format → Bytes → ℕ → Bytes → Bytes → Bytes → Decision
decision F b budget first second stack =
    decide (fits F (room first second)) (places (length stack) (room first second)) budget (formula F b)

-- 1 to 8; 13 a work buffer shorter than the sheet
unfoldable pub decide_call : Format → Bytes → ℕ → Bytes → Bytes → Bytes → Deciding
decide_call F b budget first second stack =
    deciding first second stack (answer (tidy_tests F b (room first second)) (decision F b budget first second stack))
