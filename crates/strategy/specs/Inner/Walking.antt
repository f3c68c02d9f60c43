-- Solve's run once more, with the pair of each step's variable drafted before the step.
-- Assumes nothing.
use Rattle.std.specs.Prelude.{◌≡◌, Bool, cond, List, [], ℕ, suc, ◌+◌, ◌*◌, ◌≤◌, ◌<◌, ◌^◌, length, Option, Some, None}
use Rattle.std.proofs.Math.Option.{some}
use Rattle.formula.specs.Tree.{Quantifier, Formula}
use Rattle.formula.specs.Tidy.{verdict}
use Rattle.formula.specs.Solve.{step, halt, ended, stopped}
use Rattle.formula.specs.Strategy.{Pairs, winner, owns, function_of, moved, strategy, run_moves}
use Rattle.sheet.specs.Format.{Bytes, Row, sheet_length}
use Rattle.rows.specs.Layouts.{format_in}
use Rattle.rows.specs.Formulas.{matrix_in, formula_in}
use Rattle.rows.specs.declared.Layout.{Layout}
use Rattle.pairs.specs.Pairs.{one_pair, pair_rows}
use Rattle.next_function.specs.Next.{next_move}
use Rattle.solve.specs.declared.State.{State}
use Rattle.solve.specs.declared.step.Step.TheVariants as taken
use Rattle.solve.specs.Inner.Running.{Held, RunReady, fits_in, reached, Stepped, run_from, shown}
use Rattle.strategy.specs.declared.walk.Draft.{Draft}
use Rattle.strategy.specs.Inner.Drafts.{Drafted, DraftReady}

-- the side of a draft
abbrev pub side_of : Draft → Quantifier
side_of d = winner d.exists

-- the rows of the pair of Solve's next step, if its variable is of the side q
abbrev pub next_rows : Quantifier → Formula → List Row
next_rows q f =
    cond (owns q f.prefix (moved (next_move f))) (one_pair (moved (next_move f)) (function_of (moved (next_move f)) f)) []

-- a sheet from which a variable is taken, held in b, and where its pair goes
pub record NextReady (s : Layout) (d : Draft) (b : Bytes) (part out : ℕ) : Type 0 where
  pub most : ℕ
  pub held : Held most s b
  pub some_left : 0 < s.variables
  pub part_room : sheet_length (format_in s) s.variables s.nodes ≤ part
  pub draft : DraftReady s d.to.layout out d.to.at

-- a state from which the run goes on, and where the pair of its step goes
pub record TurnReady (most : ℕ) (s : State) (d : Draft) (first second out : Bytes) : Type 0 where
  pub run : RunReady most s first second
  pub never_stops : (x : ℕ) → step (fits_in s most) (reached s first) ≡ halt (stopped x) → ⊥
  pub draft : DraftReady s.sheet d.to.layout (length out) d.to.at

-- a turn: nothing changes if the sheet is decided; else the step is made, and the pair drafted before it
abbrev pub Turned : ℕ → State → Draft → Bytes → Bytes → Bytes → Bytes → Option (State × ℕ) → Type 0
Turned most s d first first' out out' None =
    ((v : Bool) × (verdict (matrix_in s.sheet first) ≡ some v)) × (first' ≡ first) × (out' ≡ out)
Turned most s d first first' out out' (Some p) =
    Stepped most s first [] first' [] (taken.Next p.0) ×
    Drafted d.to.layout out out' d.to.at p.1 (next_rows (side_of d) (formula_in s.sheet first)) × (p.1 ≤ d.to.at + 8194)

-- the side's pairs from a state on
abbrev pub pairs_from : Quantifier → ℕ → State → Bytes → Pairs
pairs_from q most s b = strategy q (run_moves (fits_in s most) (suc s.sheet.variables) (reached s b)) (formula_in s.sheet b)

-- a state whose run ends with a verdict, and where the pairs go
pub record WalkReady (most : ℕ) (s : State) (d : Draft) (first second out : Bytes) : Type 0 where
  pub run : RunReady most s first second
  pub says : Bool
  pub ends : (run_from most s first).end ≡ ended says
  pub draft : DraftReady s.sheet d.to.layout (length out) d.to.at
  pub few : d.to.at + 8194 * s.sheet.variables < 2 ^ 32

-- all pairs from it on are drafted, and the first buffer shows where the run ended
pub record Walked (most : ℕ) (s : State) (d : Draft) (first first' out out' : Bytes) (next : ℕ) : Type 0 where
  pub drafted : Drafted d.to.layout out out' d.to.at next (pair_rows (pairs_from (side_of d) most s first))
  pub shows : first' ≡ shown (format_in s.sheet) (length first) (run_from most s first)
