-- A run of Solve that goes on from where another one stood (N13): counts added to a state and to a run.
-- Assumes nothing.
use Rattle.std.specs.Prelude.{ℕ, ◌+◌}
use Rattle.formula.specs.Solve.{State, Run}

unfoldable pub add_to_state : ℕ → ℕ → State → State
add_to_state settled expanded s = record { formula = s.formula; settles = settled + s.settles; expands = expanded + s.expands }

unfoldable pub add_to_run : ℕ → ℕ → Run → Run
add_to_run settled expanded r = record { end = r.end; state = add_to_state settled expanded r.state }
