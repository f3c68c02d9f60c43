-- An answer of Join in its definition's words.
-- Assumes nothing.
use Rattle.std.specs.Prelude.{Bool, Result, Ok, Err, Option, Some, None}
use Rattle.std.proofs.Math.Option.{none, some}
use Rattle.formula.specs.Join.{Answer as Said}
use Rattle.sheet.specs.Check.{Answer, accepted}
use Rattle.rows.specs.Refusals.{refused_by}
use Rattle.rows.specs.declared.refusals.Refusal.{Refusal}

-- "true, false, unknown"
abbrev pub known_in : Option Bool → Said
known_in (Some value) = some value
known_in None = none

abbrev pub join_answer : Result (Option Bool) Refusal → Answer Said
join_answer (Ok a) = accepted (known_in a)
join_answer (Err e) = refused_by e
