-- "Carry a stopped run over" (N13).
-- Assumes nothing.
use Rattle.std.specs.Prelude.{Bool, true, false, not, List, [], ◌∷◌, ◌++◌, ℕ, ◌+◌, eqb}
use Rattle.sheet.specs.Format.{Bytes, Format, narrow, wide, variables}
use Rattle.sheet.specs.Refusals.{wrong_counts}
use Rattle.sheet.specs.Check.{Answer, refused, accepted, Test, test, answer, check_tests}
use Rattle.sheet.specs.Operations.{Solved, is_refused, is_stopped, is_ended, Solving, solve_call}
use Rattle.sheet.specs.Trace.{room}
use Rattle.sheet.specs.Conversion.{carried, converted_room_test}

-- the format of the sheet reached, by whether the caller calls it narrow; and that sheet, "widened if the caller calls it narrow"
abbrev pub named : Bool → Format
named true = narrow
named false = wide

unfoldable pub widened : Bool → Bytes → Bytes
widened true b = carried narrow wide b
widened false b = b

-- 1 to 8 of the format named; 25 settled, expanded and variables left don't add up to the starting count; 13 a buffer shorter than the
-- widened sheet
unfoldable pub resume_tests : ℕ → ℕ → ℕ → Bytes → Bool → ℕ → List Test
resume_tests started settled expanded b is_narrow len =
    let F = named is_narrow in
    check_tests F b ++ (test (not (eqb (settled + expanded + variables F b) started)) wrong_counts 0 ∷ converted_room_test F wide b len ∷ [])

-- "the counts given added to its own", for a verdict and for a stop alike
unfoldable pub add_to_answer : ℕ → ℕ → Solved → Solved
add_to_answer settled expanded (is_refused n i) = is_refused n i
add_to_answer settled expanded (is_stopped x n m) = is_stopped x (settled + n) (expanded + m)
add_to_answer settled expanded (is_ended v n m) = is_ended v (settled + n) (expanded + m)

unfoldable pub with_counts : ℕ → ℕ → Solving → Solving
with_counts settled expanded w = record { answer = add_to_answer settled expanded w.answer; first = w.first; second = w.second }

-- refusing alters no byte of a buffer
unfoldable pub resuming : Bytes → Bytes → Answer Solving → Solving
resuming first second (refused n i) = record { answer = is_refused n i; first = first; second = second }
resuming first second (accepted w) = w

-- answer and final buffers are Solve's on the wide sheet
unfoldable pub resume_call : ℕ → ℕ → ℕ → Bytes → Bool → Bytes → Bytes → Solving
resume_call started settled expanded b is_narrow first second =
    resuming first second
    (answer (resume_tests started settled expanded b is_narrow (room first second))
    (with_counts settled expanded (solve_call wide (widened is_narrow b) first second)))
