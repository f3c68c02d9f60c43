-- A value judged by a run of Solve.
-- Assumes nothing.
use Rattle.std.specs.Prelude.{Bool, ℕ, ◌≤◌, ◌<◌, length}
use Rattle.formula.specs.Solve.{End, ended, stopped}
use Rattle.formula.specs.Force.{Forced, judged, forced}
use Rattle.sheet.specs.Format.{Bytes, fits}
use Rattle.sheet.specs.Sheet.{formula}
use Rattle.sheet.specs.Force.{values_of}
use Rattle.rows.specs.Layouts.{format_in}
use Rattle.rows.specs.declared.Layout.{Layout}
use Rattle.checking.specs.Sheets.{Sheet}
use Rattle.solve.specs.Answers.{verdict_of}
use Rattle.solve.specs.declared.Solved.{Solved}
use Rattle.solve.specs.declared.Solved.TheVariants.{Stopped, Ended}

-- a sheet with fewer values than variables, and room for it
pub record Judgeable (s : Layout) (b vs : Bytes) (room : ℕ) : Type 0 where
  pub checked : Sheet s.format b s
  pub fewer : length vs < s.variables
  pub has_room : length b ≤ room

-- how a run ended, whatever its counts
abbrev pub end_of : Solved → End
end_of (Stopped x settled expanded) = stopped x
end_of (Ended v settled expanded) = ended (verdict_of v)

-- the end of a value's run, and what both runs come to
abbrev pub end_in : Layout → Bytes → Bytes → Bool → ℕ → End
end_in s b vs c room = (judged (fits (format_in s) room) (values_of vs) c (formula (format_in s) b)).end

abbrev pub outcome_in : Layout → Bytes → Bytes → ℕ → Forced
outcome_in s b vs room = forced (fits (format_in s) room) (values_of vs) (formula (format_in s) b)
