-- An answer of Decide in its definition's words.
-- Assumes nothing.
use Rattle.std.specs.Borrow.{MutBor}
use Rattle.std.specs.Prelude.{Result, Ok, Err}
use denote.Triple.Both.{Both}
use Rattle.formula.specs.Decide.{Outcome as Said, decided, no_place, spent, Decision as Found}
use Rattle.sheet.specs.Format.{Bytes}
use Rattle.sheet.specs.Decide.{DecideAnswer as Answer, decide_refused, decide_answer, Deciding}
use Rattle.solve.specs.Answers.{verdict_of}
use Rattle.rows.specs.Refusals.{number_of, place_of}
use Rattle.rows.specs.declared.refusals.Refusal.{Refusal}
use Rattle.decide.specs.declared.search.Outcome.{Outcome}
use Rattle.decide.specs.declared.search.Outcome.TheVariants.{Decided, NoPlace, Spent}
use Rattle.decide.specs.declared.search.Decision.{Decision}

-- what a search found
abbrev pub outcome_of : Outcome → Said
outcome_of (Decided v) = decided (verdict_of v)
outcome_of NoPlace = no_place
outcome_of Spent = spent

abbrev pub decision_of : Decision → Found
decision_of d = record { outcome = outcome_of d.outcome; runs = d.runs }

-- "ended with a verdict and the runs; no place (runs so far); budget spent"
abbrev pub answer_of : Result Decision Refusal → Answer
answer_of (Ok d) = decide_answer (outcome_of d.outcome) d.runs
answer_of (Err e) = decide_refused (number_of e) (place_of e)

-- a call's answer, with what it leaves in the three buffers
abbrev pub deciding_of : Result Decision Refusal → Bytes → Bytes → Bytes → Deciding
deciding_of r first second stack = record { answer = answer_of r; first = first; second = second; stack = stack }

-- a work buffer, or the stack, as it is found and as it is left
abbrev pub Buffer : Type 0
Buffer = Both (MutBor Bytes) (MutBor Bytes)

abbrev pub decide_left : Result Decision Refusal → Buffer → Buffer → Buffer → Deciding
decide_left r first second stack = deciding_of r first.exit.now second.exit.now stack.exit.now
