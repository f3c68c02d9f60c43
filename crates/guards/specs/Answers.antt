-- An answer of Guards in the paper's words (N10).
-- Assumes nothing.
use Rattle.std.specs.Prelude.{Result, Ok, Err}
use Rattle.sheet.specs.Format.{Bytes}
use Rattle.sheet.specs.Guards.{Guards, guards_refused, guards_stopped, guards_true, guards_kept, Guarding}
use Rattle.rows.specs.Refusals.{number_of, place_of}
use Rattle.rows.specs.declared.refusals.Refusal.{Refusal}
use Rattle.guards.specs.declared.Guarded.{Guarded}
use Rattle.guards.specs.declared.Guarded.TheVariants.{Stopped, True, Kept}

-- "An initial run that stops or says true is itself the answer"; else the length of the kept children's sheet, and the count
abbrev pub guarded_answer : Guarded → Guards
guarded_answer (Stopped x settled expanded) = guards_stopped x settled expanded
guarded_answer (True settled expanded) = guards_true settled expanded
guarded_answer (Kept length stops) = guards_kept length stops

-- a call's answer, which may be a refusal
abbrev pub guards_told : Result Guarded Refusal → Guards
guards_told (Ok g) = guarded_answer g
guards_told (Err e) = guards_refused (number_of e) (place_of e)

-- the same, with what it leaves in the output and the two work buffers
abbrev pub leaves : Result Guarded Refusal → Bytes → Bytes → Bytes → Guarding
leaves r out first second = record { answer = guards_told r; output = out; first = first; second = second }
