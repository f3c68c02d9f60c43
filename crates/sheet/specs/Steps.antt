-- A whole list of steps (N2): each record filled with what the single call on the sheet held answers.
-- Assumes nothing.
use Rattle.std.specs.Prelude.{◌≡◌, List, [], ◌∷◌, ℕ, ◌+◌, min, length, take, replicate}
use Rattle.sheet.specs.Format.{Bytes, Format, variables}
use Rattle.sheet.specs.Check.{Answer, refused, accepted, answer}
use Rattle.sheet.specs.Operations.{padded, tidy_tests}
use Rattle.sheet.specs.Calls.{Call, settle, expand, perform, Held, held_after, held, Demand3}
use Rattle.formula.specs.Tidy.{first_fault}
use Rattle.sheet.specs.Sheet.{formula}

pub data Operation : Type 0 where
  settling expanding : Operation

-- a step record: its operation, any number as x, and the place for its answer
pub record Step : Type 0 where
  pub operation : Operation
  pub variable : ℕ
  pub answer : Answer ℕ

abbrev pub single : Operation → ℕ → Bytes → Call
single settling x out = settle x out
single expanding x out = expand x out

-- a step's single call with an output of n bytes; no answer and no sheet held depends on what these bytes are (`same_answer`, `same_held`)
abbrev pub call_of : ℕ → Step → Call
call_of n s = single s.operation s.variable (replicate n 0)

-- the calls of a list of steps, in its order
unfoldable pub calls : ℕ → List Step → List Call
calls n [] = []
calls n (s ∷ ss) = call_of n s ∷ calls n ss

-- what the call leaves as the sheet held
unfoldable pub after : Format → Call → Held → Held
after F c h =
    let w = perform F c h.sheet in
    held_after h w.answer w.output

-- the record with what the call on the sheet b answers
unfoldable pub fill : Format → ℕ → Step → Bytes → Step
fill F n s b =
    record {
      operation = s.operation;
      variable = s.variable;
      answer = (perform F (call_of n s) b).answer;
    }

unfoldable pub filled : Format → ℕ → List Step → Held → List Step
filled F n [] h = []
filled F n (s ∷ ss) h = fill F n s h.sheet ∷ filled F n ss (after F (call_of n s) h)

-- before the first step: the sheet given, no call accepted
abbrev pub given : Bytes → Held
given b = record { sheet = b; accepted_calls = 0 }

-- the sheet held before step i
unfoldable pub reached : Format → ℕ → List Step → Bytes → ℕ → Bytes
reached F n ss b i = (held F b (calls n (take i ss))).sheet

-- the answer of the whole, the final sheet's length if accepted, and what the records and both buffers then hold
pub record Listed : Type 0 where
  pub answer : Answer ℕ
  pub steps : List Step
  pub first : Bytes
  pub second : Bytes

-- refused, no record and no byte changes; else the first buffer ends with the final sheet and zeros, the second with zeros alone
unfoldable pub listed : List Step → List Step → Bytes → Bytes → Answer Bytes → Listed
listed steps done first second (refused n i) = record { answer = refused n i; steps = steps; first = first; second = second }
listed steps done first second (accepted last) =
    record {
      answer = accepted (length last);
      steps = done;
      first = padded (length first) last;
      second = replicate (length second) 0;
    }

-- 1 to 8; 13 a buffer shorter than the sheet. Each call has an output as long as the shorter buffer.
unfoldable pub steps_call : Format → Bytes → List Step → Bytes → Bytes → Listed
steps_call F b steps first second =
    let shorter = min (length first) (length second) in
    listed steps (filled F shorter steps (given b)) first second
    (answer (tidy_tests F b shorter) (held F b (calls shorter steps)).sheet)

-- how many records say accepted
abbrev pub acceptance : Answer ℕ → ℕ
acceptance (refused n i) = 0
acceptance (accepted n) = 1

unfoldable pub acceptances : List Step → ℕ
acceptances [] = 0
acceptances (s ∷ ss) = acceptance s.answer + acceptances ss

-- Demand 3 of an accepted list on a tidy sheet: it speaks of the sheet in the first buffer and of the records.
pub record StepsDemand3 (F : Format) (b : Bytes) (steps : List Step) (first second : Bytes) (n : ℕ) : Type 0 where
  pub at_front : take n (steps_call F b steps first second).first ≡ (held F b (calls (min (length first) (length second)) steps)).sheet
  pub records : acceptances (steps_call F b steps first second).steps
      ≡ (held F b (calls (min (length first) (length second)) steps)).accepted_calls
  -- accepted steps + variables left = variables at the start
  pub counts : acceptances (steps_call F b steps first second).steps + variables F (take n (steps_call F b steps first second).first) ≡ variables F b
  pub demand : Demand3 F b (calls (min (length first) (length second)) steps)

-- 9 at the first operator at fault
unfoldable pub nine : Format → Bytes → Answer ℕ
nine F b = refused 9 (variables F b + first_fault (formula F b).matrix)
