-- An answer of Solve in document 01's words ("Solve").
-- Assumes nothing.
use Rattle.std.specs.Prelude.{Bool, true, false, Result, Ok, Err, Option, Some, None}
use Rattle.std.proofs.Math.Option as formula
use Rattle.sheet.specs.Format.{Bytes}
use Rattle.sheet.specs.Operations.{Solved as Answer, is_refused, is_stopped, is_ended, Solving}
use Rattle.rows.specs.Refusals.{number_of, place_of}
use Rattle.rows.specs.declared.refusals.Refusal.{Refusal}
use Rattle.solve.specs.declared.Verdict.{Verdict}
use Rattle.solve.specs.declared.Verdict.TheVariants.{True, False}
use Rattle.solve.specs.declared.Solved.{Solved}
use Rattle.solve.specs.declared.Solved.TheVariants.{Stopped, Ended}

abbrev pub verdict_of : Verdict → Bool
verdict_of True = true
verdict_of False = false

-- "stopped, or ended with a verdict, and both carry the number settled and the number expanded": a run is never refused
abbrev pub solved_answer : Solved → Answer
solved_answer (Stopped x settled expanded) = is_stopped x settled expanded
solved_answer (Ended v settled expanded) = is_ended (verdict_of v) settled expanded

-- with what both buffers then hold
abbrev pub run_leaves : Solved → Bytes → Bytes → Solving
run_leaves r first second = record { answer = solved_answer r; first = first; second = second }

-- a call of Solve may also be refused
abbrev pub solve_answer : Result Solved Refusal → Answer
solve_answer (Ok r) = solved_answer r
solve_answer (Err e) = is_refused (number_of e) (place_of e)

abbrev pub leaves : Result Solved Refusal → Bytes → Bytes → Solving
leaves r first second = record { answer = solve_answer r; first = first; second = second }

-- the verdict of a decided sheet
abbrev pub decision_of : Option Verdict → formula.Option Bool
decision_of (Some v) = formula.some (verdict_of v)
decision_of None = formula.none
