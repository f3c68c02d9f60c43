-- Decide: Solve, and where a run stops a split of the formula reached on its first row, each half decided in the same way.
-- Assumes nothing.
use Rattle.std.specs.Prelude.{◌≡◌, Bool, true, false, cond, [], ◌∷◌, ℕ, zero, suc, ◌+◌, ◌^◌, ◌≤◌, leb, length}
use Rattle.std.specs.Bool.{beq}
use Rattle.formula.specs.Tree.{Quantifier, Formula}
use Rattle.formula.specs.Truth.{truth}
use Rattle.formula.specs.Solve.{End, ended, stopped, Fits, solve}
use Rattle.formula.specs.Trial.{stops_at}
use Rattle.formula.specs.Force.{given, owner}

-- the formula with a value for its first row
abbrev pub half : Bool → Formula → Formula
half b f = given (b ∷ []) f

-- "decided with a verdict, or no place left", or all runs of the budget spent; and the number of runs of Solve
pub data Outcome : Type 0 where
  decided : Bool → Outcome
  no_place : Outcome
  spent : Outcome

pub record Decision : Type 0 where
  pub outcome : Outcome
  pub runs : ℕ

-- a run that ends with a verdict decides; of one that stops, what comes after it does
unfoldable pub after_solve : End → Decision → Decision
after_solve (ended v) d = record { outcome = decided v; runs = 1 }
after_solve (stopped x) d = record { outcome = d.outcome; runs = suc d.runs }

-- value 0 first: "an existential split ends early at true, a universal one at false", and any where no place is left
unfoldable pub ends_split : Quantifier → Outcome → Bool
ends_split q (decided v) = beq (stops_at q) v
ends_split q no_place = true
ends_split q spent = true

unfoldable pub split : Quantifier → Decision → Decision → Decision
split q d₀ d₁ = cond (ends_split q d₀.outcome) d₀ (record { outcome = d₁.outcome; runs = d₀.runs + d₁.runs })

-- "with so many places for waiting formulas": while a half is decided, the other one waits
unfoldable pub seek : Fits → ℕ → Formula → Decision
seek fits zero f = after_solve (solve fits f).end (record { outcome = no_place; runs = 0 })
seek fits (suc places) f =
    let r = solve fits f in
    let g = r.state.formula in
    after_solve r.end (split (owner g.prefix) (seek fits places (half false g)) (seek fits places (half true g)))

-- "the answer if the runs are within" the budget, "else spent"
unfoldable pub within : ℕ → Decision → Decision
within budget d = cond (leb d.runs budget) d (record { outcome = spent; runs = budget })

unfoldable pub decide : Fits → ℕ → ℕ → Formula → Decision
decide fits places budget f = within budget (seek fits places f)

-- What a decision is relied on for: a verdict is the truth, of at least one run; no more runs than the budget and 2 to the power of the
-- variables.
pub record DecideRight (budget : ℕ) (f : Formula) (d : Decision) : Type 0 where
  pub is_truth : (v : Bool) → d.outcome ≡ decided v → v ≡ truth f
  pub some_run : (v : Bool) → d.outcome ≡ decided v → 1 ≤ d.runs
  pub in_budget : d.runs ≤ budget
  pub in_power : d.runs ≤ 2 ^ length f.prefix
