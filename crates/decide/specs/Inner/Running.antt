-- A run of Solve, and the sheet that it reached.
-- Assumes nothing.
use Rattle.std.specs.Prelude.{◌≡◌, ℕ}
use Rattle.formula.specs.Solve.{ended, stopped}
use Rattle.sheet.specs.Format.{Bytes}
use Rattle.sheet.specs.Trace.{room}
use Rattle.rows.specs.Formulas.{formula_in}
use Rattle.rows.specs.declared.Layout.{Layout}
use Rattle.solve.specs.Answers.{verdict_of}
use Rattle.solve.specs.Inner.Running.{solution}
use Rattle.decide.specs.declared.running.Ran.{Ran}
use Rattle.decide.specs.declared.running.Ran.TheVariants.{Ended, Stopped}
use Rattle.decide.specs.Inner.Waiting.{Waiting}

-- a run from the first of two buffers that stopped, with the sheet reached, of layout t, in the first
pub record Stops (s : Layout) (first second first' : Bytes) (t : Layout) : Type 0 where
  pub variable : ℕ
  pub stops : (solution s first second).end ≡ stopped variable
  pub waiting : Waiting (room first second) t first'
  pub is_reached : formula_in t first' ≡ (solution s first second).state.formula
  pub same_format : t.format ≡ s.format

abbrev pub Runs : Layout → Bytes → Bytes → Bytes → Ran → Type 0
Runs s first second first' (Ended v) = (solution s first second).end ≡ ended (verdict_of v)
Runs s first second first' (Stopped t) = Stops s first second first' t
