-- A run that goes on from a sheet whose rows are in bytes.
-- Assumes nothing.
use Rattle.std.specs.Prelude.{not, [], ◌∷◌, ℕ, ◌+◌, ◌^◌, ◌≤◌, ◌<◌, eqb, ltb}
use Rattle.formula.specs.Solve.{Run, solve}
use Rattle.sheet.specs.Format.{Bytes, wide, sheet_length, fits}
use Rattle.sheet.specs.Refusals.{no_room, wrong_counts}
use Rattle.sheet.specs.Check.{accepted, test, answer}
use Rattle.sheet.specs.Operations.{Solving, solving}
use Rattle.sheet.specs.Limits.{Within}
use Rattle.sheet.specs.Trace.{room}
use Rattle.sheet.specs.Resume.{with_counts, resuming}
use Rattle.rows.specs.Formulas.{formula_in, Readable}
use Rattle.rows.specs.declared.Layout.{Layout}
use Rattle.solve.specs.declared.Solved.{Solved}
use Rattle.solve.specs.declared.Solved.TheVariants.{Stopped, Ended}
use Rattle.resume.specs.declared.Counts.{Counts}

-- the formula whose rows are in b is within the wide limits
pub record Placed (s : Layout) (b : Bytes) : Type 0 where
  pub readable : Readable s b
  pub within : Within wide (formula_in s b)

-- and both work buffers hold its wide sheet
pub record Widenable (s : Layout) (b first second : Bytes) : Type 0 where
  pub placed : Placed s b
  pub has_room : sheet_length wide s.variables s.nodes ≤ room first second

-- Solve's run on it, and what that answers and leaves
abbrev pub wide_run : Layout → Bytes → Bytes → Bytes → Run
wide_run s b first second = solve (fits wide (room first second)) (formula_in s b)

abbrev pub wide_call : Layout → Bytes → Bytes → Bytes → Solving
wide_call s b first second = solving wide first second (accepted (wide_run s b first second))

-- the counts of an answer, added to those given, fit a machine number
abbrev pub Addable : ℕ → ℕ → Solved → Type 0
Addable settled expanded (Stopped x n m) = (settled + n < 2 ^ 64) × (expanded + m < 2 ^ 64)
Addable settled expanded (Ended v n m) = (settled + n < 2 ^ 64) × (expanded + m < 2 ^ 64)

-- Resume once every test but 25 and 13 has passed
abbrev pub resumed : Layout → Counts → Bytes → Bytes → Bytes → Solving
resumed s c b first second =
    resuming first second
    (answer
    (test (not (eqb (c.settled + c.expanded + s.variables) c.started)) wrong_counts 0 ∷
    test (ltb (room first second) (sheet_length wide s.variables s.nodes)) no_room 0 ∷
    [])
    (with_counts c.settled c.expanded (wide_call s b first second)))
