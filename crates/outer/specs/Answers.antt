-- What the step one block out answers, by number and values, and what it leaves in its output (N6).
-- Assumes nothing.
use Rattle.std.specs.Prelude.{ℕ, length, Result, Ok, Err}
use Rattle.sheet.specs.Format.{Bytes, Format}
use Rattle.sheet.specs.Check.{Answer, refused, accepted}
use Rattle.sheet.specs.Operations.{Written}
use Rattle.sheet.specs.Outer.{Copied as Copies, outer_call, outer_answer}
use Rattle.rows.specs.Refusals.{refused_by}
use Rattle.rows.specs.declared.refusals.Refusal.{Refusal}
use Rattle.outer.specs.declared.Copied.{Copied}

-- refused with number and place; or the new length, how many variables are copied, and the lowest (old) number among them, 0 if none
abbrev pub outcome_answer : Result Copied Refusal → Answer Copies
outcome_answer (Ok c) = accepted (record { new_length = c.length; copied = c.copied; lowest = c.lowest })
outcome_answer (Err e) = refused_by e

-- The answer in full, and what the output then holds; the call of demand 3, `outer_call`, answers with the new length alone.
pub record OuterWritten : Type 0 where
  pub answer : Answer Copies
  pub output : Bytes

-- that call's answer: the length alone
abbrev pub lengths : Answer Copies → Answer ℕ
lengths (refused number place) = refused number place
lengths (accepted c) = accepted c.new_length

abbrev pub length_alone : OuterWritten → Written
length_alone w = record { answer = lengths w.answer; output = w.output }

abbrev pub outer_written : Format → Bytes → ℕ → Bytes → OuterWritten
outer_written F b x out = record { answer = outer_answer F b x (length out); output = (outer_call F b x out).output }
