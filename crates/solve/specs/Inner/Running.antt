-- A run of Solve between two steps: the sheet held in the first buffer, and what a step makes of it.
-- Assumes nothing.
use Rattle.std.specs.Prelude.{◌≡◌, Bool, true, ℕ, suc, ◌+◌, ◌-◌, ◌^◌, ◌≤◌, ◌<◌, length, drop, replicate}
use Rattle.std.proofs.Math.Option.{none}
use Rattle.formula.specs.Tidy.{is_tidy, verdict}
use Rattle.formula.specs.Solve.{lowest, State as Reached, halt, next, ended, stopped, step, Run, run, solve}
use Rattle.sheet.specs.Format.{Bytes, Format, sheet_length, fits}
use Rattle.sheet.specs.Sheet.{sheet}
use Rattle.sheet.specs.Check.{accepted}
use Rattle.sheet.specs.Operations.{padded, Solved, solved, Solving, solving}
use Rattle.sheet.specs.Limits.{Within}
use Rattle.sheet.specs.Trace.{room}
use Rattle.rows.specs.Layouts.{format_in, size}
use Rattle.rows.specs.Formulas.{matrix_in, formula_in, layout_for}
use Rattle.rows.specs.declared.Layout.{Layout}
use Rattle.choice.specs.Settling.{SettleHere}
use Rattle.tidying.specs.Limits.{Raw}
use Rattle.elimination.specs.declared.settling.Put.{Put}
use Rattle.solve.specs.declared.State.{State}
use Rattle.solve.specs.declared.step.Step.{Step}
use Rattle.solve.specs.declared.step.Step.TheVariants.{Ended, Stopped, Next}
use Rattle.solve.specs.Answers.{verdict_of}

-- a buffer with a tidy formula's sheet of at most `most` bytes at its front, of layout s, and zeros behind it
pub record Held (most : ℕ) (s : Layout) (b : Bytes) : Type 0 where
  pub layout_is : s ≡ layout_for s.format (formula_in s b)
  pub bytes_are : b ≡ padded (length b) (sheet (format_in s) (formula_in s b))
  pub has_room : length (sheet (format_in s) (formula_in s b)) ≤ most
  pub within : Within (format_in s) (formula_in s b)
  pub is_neat : is_tidy (formula_in s b).matrix ≡ true

-- how many variables a run began with
abbrev pub begun : State → ℕ
begun s = s.settled + s.expanded + s.sheet.variables

-- a state whose sheet is in the first of two buffers that both have room
pub record RunReady (most : ℕ) (s : State) (first second : Bytes) : Type 0 where
  pub held : Held most s.sheet first
  pub first_room : most ≤ length first
  pub second_room : most ≤ length second
  pub few : begun s < 2 ^ 32

-- the sheet isn't decided
abbrev pub Open : State → Bytes → Type 0
Open s b = verdict (matrix_in s.sheet b) ≡ none

-- a variable is settled next
abbrev pub Settles : State → Bytes → Put → Type 0
Settles s b p = SettleHere s.sheet b (lowest (formula_in s.sheet b)) (record { row = p.row; variable = p.variable; value = p.value })

-- a sheet of so many bytes is at the front of the second buffer and has its place in the first
pub record Fetchable (bytes : ℕ) (first second : Bytes) : Type 0 where
  pub in_first : bytes ≤ length first
  pub in_second : bytes ≤ length second

-- a buffer has zeros from byte n on
pub record ZerosBehind (n : ℕ) (b : Bytes) : Type 0 where
  pub inside : n ≤ length b
  pub zeros : drop n b ≡ replicate (length b - n) 0

-- the bytes of a sheet of layout `to` in the format of layout `from`
abbrev pub long_in : Layout → Layout → ℕ
long_in from to = sheet_length (format_in from) to.variables to.nodes

-- such a sheet is at the front of the second buffer and has its place in the first, which has a sheet of layout `from` and zeros behind it
pub record Brings (from to : Layout) (first second : Bytes) : Type 0 where
  pub few_from : (from.variables < 2 ^ 32) × (from.nodes < 2 ^ 32)
  pub few_to : (to.variables < 2 ^ 32) × (to.nodes < 2 ^ 32)
  pub fetchable : Fetchable (long_in from to) first second
  pub zeros : ZerosBehind (long_in from from) first

-- the state of the definition: the formula held, the number settled and the number expanded
abbrev pub reached : State → Bytes → Reached
reached s b = record { formula = formula_in s.sheet b; settles = s.settled; expands = s.expanded }

-- what fits so many bytes in the format of a state's sheet
abbrev pub fits_in : State → ℕ → ℕ → ℕ → Bool
fits_in s most = fits (format_in s.sheet) most

-- a step from state s, its sheet in the first buffer, leaves these buffers
abbrev pub Stepped : ℕ → State → Bytes → Bytes → Bytes → Bytes → Step → Type 0
Stepped most s first second first' second' (Ended v) =
    (step (fits_in s most) (reached s first) ≡ halt (ended (verdict_of v))) × (first' ≡ first) × (second' ≡ second)
Stepped most s first second first' second' (Stopped x) =
    (step (fits_in s most) (reached s first) ≡ halt (stopped x)) × (first' ≡ first) × (second' ≡ second)
Stepped most s first second first' second' (Next t) =
    (step (fits_in s most) (reached s first) ≡ next (reached t first')) × Held most t.sheet first' ×
    (s.sheet.variables ≡ suc t.sheet.variables) × (begun t ≡ begun s) × (t.sheet.format ≡ s.sheet.format)

-- the run from a state
abbrev pub run_from : ℕ → State → Bytes → Run
run_from most s b = run (fits_in s most) (suc s.sheet.variables) (reached s b)

-- what it answers, and what it leaves in the first buffer and in both
abbrev pub answered : Run → Solved
answered r = solved r.end r.state

abbrev pub shown : Format → ℕ → Run → Bytes
shown F len r = padded len (sheet F r.state.formula)

pub record Goes (most : ℕ) (s : State) (first first' : Bytes) (a : Solved) : Type 0 where
  pub answers : a ≡ answered (run_from most s first)
  pub shows : first' ≡ shown (format_in s.sheet) (length first) (run_from most s first)

unfoldable pub run_call : ℕ → State → Bytes → Bytes → Solving
run_call most s first second = solving (format_in s.sheet) first second (accepted (run_from most s first))

-- the rows of a formula within the limits in the first of two buffers that both have room for its sheet
pub record RawReady (s : Layout) (first second : Bytes) : Type 0 where
  pub raw : Raw s first
  pub within : Within (format_in s) (formula_in s first)
  pub has_room : size s ≤ room first second

-- the run of Solve on the formula whose rows are in the first buffer
abbrev pub solution : Layout → Bytes → Bytes → Run
solution s first second = solve (fits (format_in s) (room first second)) (formula_in s first)

unfoldable pub raw_call : Layout → Bytes → Bytes → Solving
raw_call s first second = solving (format_in s) first second (accepted (solution s first second))
