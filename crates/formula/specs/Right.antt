-- What Solve is relied on for: its verdict, its counts, where it stops, and what a looser test of fit changes.
-- Assumes nothing.
use Rattle.std.specs.Prelude.{◌≡◌, Bool, true, false, ◌↔◌, ℕ, ◌+◌, length}
use mathlib.Core.List.{List, IsPrefix}
use Rattle.std.proofs.Math.Option.{none, some}
use Rattle.formula.specs.Tree.{Formula}
use Rattle.formula.specs.Truth.{truth}
use Rattle.formula.specs.Tidy.{is_tidy, verdict}
use Rattle.formula.specs.Solve.{lowest, cheapest, State, ended, stopped, Fits, fits_raw, Run}

-- nothing can be settled, and the cheapest innermost expansion doesn't fit
pub record Stuck (fits : Fits) (f : Formula) (x : ℕ) : Type 0 where
  pub undecided : verdict f.matrix ≡ none
  pub nothing_settles : lowest f ≡ none
  pub is_cheapest : cheapest f ≡ some x
  pub too_long : fits_raw fits x f ≡ false

-- A run of Solve from a formula: the one reached is tidy, and the run ends with a verdict exactly if that one has it, and stops at a
-- variable exactly if that one is stuck there. A verdict is the truth of the formula that the run began with.
pub record SolveRight (fits : Fits) (f : Formula) (r : Run) : Type 0 where
  pub same_truth : truth r.state.formula ≡ truth f
  pub counts : r.state.settles + r.state.expands + length r.state.formula.prefix ≡ length f.prefix
  pub is_neat : is_tidy r.state.formula.matrix ≡ true
  pub ends : (v : Bool) → (r.end ≡ ended v) ↔ (verdict r.state.formula.matrix ≡ some v)
  pub stops : (x : ℕ) → (r.end ≡ stopped x) ↔ Stuck fits r.state.formula x
  pub on_ended : (v : Bool) → r.end ≡ ended v → v ≡ truth f

-- a run r' beside a run r that may stop earlier: the states of r first, and nothing else if r ended with a verdict
pub record Longer (r r' : Run) (states states' : List State) : Type 0 where
  pub begins : IsPrefix states states'
  pub on_ended : (v : Bool) → r.end ≡ ended v → (r' ≡ r) × (states' ≡ states)
