-- Answers in document 01's words.
-- Assumes nothing.
use Rattle.std.specs.Prelude.{ℕ, Result, Ok, Err}
use Rattle.sheet.specs.Format.{Bytes}
use Rattle.sheet.specs.Check.{Answer, accepted, Sizes}
use Rattle.sheet.specs.Operations as operations
use Rattle.rows.specs.Refusals.{refused_by, told}
use Rattle.rows.specs.declared.Layout.{Layout}
use Rattle.rows.specs.declared.refusals.Refusal.{Refusal}

-- Check: "Accepted, it returns V and N", in the sheet's layout; "refusing returns number and place"
abbrev pub checked_answer : Result Layout Refusal → Answer Sizes
checked_answer (Ok s) = accepted (record { variables = s.variables; nodes = s.nodes })
checked_answer (Err e) = refused_by e

-- an accepted operation that writes a sheet "returns the new sheet's length"
abbrev pub written_answer : Result ℕ Refusal → Answer ℕ
written_answer r = told r

-- with what the output then holds
abbrev pub wrote : Result ℕ Refusal → Bytes → operations.Written
wrote r out = record { answer = written_answer r; output = out }
