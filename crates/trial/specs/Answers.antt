-- An answer of Trial in document 01's words.
-- Assumes nothing.
use Rattle.std.specs.Prelude.{Result, Ok, Err}
use Rattle.formula.specs.Trial as formula
use Rattle.sheet.specs.Check.{Answer, accepted}
use Rattle.rows.specs.Refusals.{refused_by}
use Rattle.rows.specs.declared.refusals.Refusal.{Refusal}
use Rattle.trial.specs.declared.Tried.{Tried}

-- "it returns the verdict and the leaves tried"; "refusing returns number and place"
abbrev pub tried_answer : Result Tried Refusal → Answer formula.Tried
tried_answer (Ok t) = accepted (record { verdict = t.verdict; leaves = t.leaves })
tried_answer (Err e) = refused_by e
