-- The search in buffers, and a split of the sheet that waits.
-- Assumes nothing.
use Rattle.std.specs.Prelude.{true, false, ℕ, suc, ◌+◌, ◌-◌, ◌≤◌, length}
use Rattle.formula.specs.Tree.{Formula}
use Rattle.formula.specs.Solve.{Fits}
use Rattle.formula.specs.Force.{owner}
use Rattle.formula.specs.Decide.{half, Decision, split, decide}
use Rattle.sheet.specs.Format.{Bytes, fits}
use Rattle.sheet.specs.Trace.{room}
use Rattle.sheet.specs.Decide.{places}
use Rattle.rows.specs.Layouts.{format_in}
use Rattle.rows.specs.Formulas.{formula_in}
use Rattle.rows.specs.declared.Layout.{Layout}
use Rattle.decide.specs.Inner.Waiting.{Waiting}

-- the search from the formula whose rows are in the first buffer, with a stack of len bytes
abbrev pub found : Layout → Bytes → Bytes → ℕ → ℕ → Decision
found s first second len budget =
    decide (fits (format_in s) (room first second)) (places len (room first second)) budget (formula_in s first)

-- a sheet waits at the front of the stack, in a place as long as the shorter buffer
pub record Branches (most : ℕ) (t : Layout) (stack : Bytes) : Type 0 where
  pub waiting : Waiting most t stack
  pub has_place : most ≤ length stack

-- both halves of a formula with so many places, the second one with what the first one left of the budget
unfoldable pub halves : Fits → ℕ → Formula → ℕ → Decision
halves fits places g budget =
    let zero = decide fits places budget (half false g) in
    split (owner g.prefix) zero (decide fits places (budget - zero.runs) (half true g))

-- those of the formula that waits, with what is behind its place
abbrev pub branched : ℕ → Layout → Bytes → ℕ → Decision
branched most t stack budget = halves (fits (format_in t) most) (places (length stack - most) most) (formula_in t stack) budget

-- a run more, and the runs of both halves
abbrev pub one_more : Decision → Decision
one_more d = record { outcome = d.outcome; runs = suc d.runs }

abbrev pub both : Decision → Decision → Decision
both d₀ d₁ = record { outcome = d₁.outcome; runs = d₀.runs + d₁.runs }
