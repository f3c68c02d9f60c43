-- Step records in arrays of numbers, for callers in C.
-- Assumes nothing.
use Rattle.std.specs.Prelude.{List, [], ◌∷◌, ◌++◌, map, ℕ, zero, suc, min, length, get_or, drop, Result}
use Rattle.std.specs.Borrow.{Bor, MutBor}
use denote.Triple.Both.{Both}
use Rattle.sheet.specs.Check.{Answer, refused, accepted}
use Rattle.sheet.specs.Format.{Bytes, Format}
use Rattle.sheet.specs.Steps.{Operation, settling, expanding, Step, Listed, steps_call}
use Rattle.checking.specs.Answers.{written_answer}
use Rattle.rows.specs.declared.refusals.Refusal.{Refusal}

-- 0 settles, any other number expands
abbrev pub numbered_operation : ℕ → Operation
numbered_operation zero = settling
numbered_operation (suc k) = expanding

-- an answer in two numbers: 0 and the new length, or the refusal's number and its place
abbrev pub numbered_answer : ℕ → ℕ → Answer ℕ
numbered_answer zero value = accepted value
numbered_answer (suc k) value = refused (suc k) value

abbrev pub answer_number : Answer ℕ → ℕ
answer_number (refused n i) = n
answer_number (accepted n) = 0

abbrev pub answer_value : Answer ℕ → ℕ
answer_value (refused n i) = i
answer_value (accepted n) = n

unfoldable pub tabulate : ℕ → (ℕ → Step) → List Step
tabulate zero at = []
tabulate (suc n) at = at zero ∷ tabulate n (λ (i : ℕ). at (suc i))

-- as many records as the shortest array holds
abbrev pub record_count : List ℕ → List ℕ → List ℕ → List ℕ → ℕ
record_count operations variables numbers values = min (min (length operations) (length variables)) (min (length numbers) (length values))

abbrev pub record_at : List ℕ → List ℕ → List ℕ → List ℕ → ℕ → Step
record_at operations variables numbers values i =
    record {
      operation = numbered_operation (get_or operations i 0);
      variable = get_or variables i 0;
      answer = numbered_answer (get_or numbers i 0) (get_or values i 0);
    }

unfoldable pub numbered : List ℕ → List ℕ → List ℕ → List ℕ → List Step
numbered operations variables numbers values =
    tabulate (record_count operations variables numbers values) (record_at operations variables numbers values)

abbrev pub step_number : Step → ℕ
step_number s = answer_number s.answer

abbrev pub step_value : Step → ℕ
step_value s = answer_value s.answer

-- an array with a number of each record at its front
abbrev pub over : (Step → ℕ) → List Step → List ℕ → List ℕ
over part steps old = map part steps ++ drop (length steps) old

-- the answer of the whole, and what the two arrays of answers and both buffers then hold
pub record Tabled : Type 0 where
  pub answer : Answer ℕ
  pub numbers : List ℕ
  pub values : List ℕ
  pub first : Bytes
  pub second : Bytes

-- a list of steps with its records' answers in arrays
abbrev pub tabled : List ℕ → List ℕ → Listed → Tabled
tabled numbers values l =
    record {
      answer = l.answer;
      numbers = over step_number l.steps numbers;
      values = over step_value l.steps values;
      first = l.first;
      second = l.second;
    }

-- an array or a buffer lent to a call, as it is found and as it is left
abbrev pub Lent : Type 0
Lent = Both (MutBor (List ℕ)) (MutBor (List ℕ))

-- one that the call only reads
abbrev pub Shown : Type 0
Shown = Both (Bor (List ℕ)) (Bor (List ℕ))

-- the call on a sheet and four arrays of records, as they are found
abbrev pub numbers_call : Format → Shown → Shown → Shown → Lent → Lent → Lent → Lent → Tabled
numbers_call F sheet operations variables numbers values first second =
    tabled numbers.entry.now values.entry.now
    (steps_call F sheet.entry.now
    (numbered operations.entry.now variables.entry.now numbers.entry.now values.entry.now)
    first.entry.now second.entry.now)

abbrev pub numbers_left : Result ℕ Refusal → Lent → Lent → Lent → Lent → Tabled
numbers_left r numbers values first second =
    record {
      answer = written_answer r;
      numbers = numbers.exit.now;
      values = values.exit.now;
      first = first.exit.now;
      second = second.exit.now;
    }

-- the list as it is left: with the records that the arrays then say
abbrev pub listed_left : Result ℕ Refusal → Shown → Shown → Lent → Lent → Lent → Lent → Listed
listed_left r operations variables numbers values first second =
    record {
      answer = written_answer r;
      steps = numbered operations.entry.now variables.entry.now numbers.exit.now values.exit.now;
      first = first.exit.now;
      second = second.exit.now;
    }
