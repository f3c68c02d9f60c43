-- The strategy of the side that Solve's verdict lets win: drafted, and written if it fits.
-- Assumes nothing.
use Rattle.std.specs.Prelude.{◌≡◌, Bool, ℕ, ◌≤◌, length}
use Rattle.formula.specs.Tree.{Formula}
use Rattle.formula.specs.Solve.{Run, ended, solve}
use Rattle.sheet.specs.Format.{Bytes, fits}
use Rattle.sheet.specs.Sheet.{formula, formula_rows, sheet}
use Rattle.sheet.specs.Operations.{padded, is_ended}
use Rattle.sheet.specs.Strategy as strategies
use Rattle.sheet.specs.Strategy.{strategy_written, strategy_too_long, winning, strategy_answer, strategy_output}
use Rattle.rows.specs.Layouts.{format_in}
use Rattle.rows.specs.declared.Layout.{Layout}
use Rattle.checking.specs.Sheets.{Sheet}
use Rattle.substitution.specs.declared.Target.{Target}
use Rattle.strategy.specs.declared.Outcome.{Outcome}
use Rattle.strategy.specs.declared.Outcome.TheVariants.{Written, TooLong}
use Rattle.strategy.specs.Inner.Drafts.{MostNodes, Draftable, Drafted}

-- Solve's run on a sheet of layout s, with so much room
abbrev pub run_in : Layout → Bytes → ℕ → Run
run_in s b most = solve (fits (format_in s) most) (formula (format_in s) b)

-- what it leaves in a buffer of so many bytes
abbrev pub left_in : Layout → Bytes → ℕ → ℕ → Bytes
left_in s b most len = padded len (sheet (format_in s) (run_in s b most).state.formula)

-- each side's strategy, by the verdict with which it wins
abbrev pub winning_in : Layout → Bytes → ℕ → Bool → Formula
winning_in s b most = winning (fits (format_in s) most) (formula (format_in s) b)

-- a sheet that Check accepts, and on which the run ends with the verdict v
pub record StrategyReady (s : Layout) (b : Bytes) (most : ℕ) (v : Bool) : Type 0 where
  pub is_sheet : Sheet s.format b s
  pub short : length b ≤ most
  pub ends : (run_in s b most).end ≡ ended v

-- its strategy is drafted, in a layout with as many nodes as fit
pub record StrategyDrafted (s : Layout) (b : Bytes) (most : ℕ) (v : Bool) (old new : Bytes) (to : Target) : Type 0 where
  pub same_format : to.layout.format ≡ s.format
  pub same_variables : to.layout.variables ≡ s.variables
  pub draftable : Draftable to.layout (length old)
  pub most_nodes : MostNodes (format_in s) (length old) s.variables to.layout.nodes
  pub drafted : Drafted to.layout old new 0 to.at (formula_rows (winning_in s b most v))

-- the answer, with the verdict and the counts
abbrev pub outcome_told : Outcome → Bool → ℕ → ℕ → strategies.StrategyAnswer
outcome_told (Written length) v settled expanded = strategy_written v settled expanded length
outcome_told (TooLong rows) v settled expanded = strategy_too_long v settled expanded rows

-- it is written, or the output is zeros
pub record StrategyEnded (s : Layout) (b : Bytes) (most : ℕ) (v : Bool) (old new : Bytes) (o : Outcome) : Type 0 where
  pub answers : (settled expanded : ℕ)
      → outcome_told o v settled expanded ≡ strategy_answer (format_in s) (length old) (winning_in s b most) (is_ended v settled expanded)
  pub leaves : (settled expanded : ℕ) → new ≡ strategy_output (format_in s) old (winning_in s b most) (is_ended v settled expanded)
