-- The states that a call of Solve goes through, with the two work buffers that it was lent.
-- Assumes nothing.
use Rattle.std.specs.Prelude.{List, [], ℕ, min, length}
use Rattle.formula.specs.Solve.{State}
use Rattle.formula.specs.Trace.{solve_trace}
use Rattle.sheet.specs.Format.{Bytes, Format, fits}
use Rattle.sheet.specs.Sheet.{formula}
use Rattle.sheet.specs.Check.{Answer, refused, accepted, answer}
use Rattle.sheet.specs.Operations.{tidy_tests}

-- the shorter work buffer
abbrev pub room : Bytes → Bytes → ℕ
room first second = min (length first) (length second)

unfoldable pub states : Answer (List State) → List State
states (refused n i) = []
states (accepted l) = l

-- from the first state to the last; none if the call is refused
unfoldable pub solve_states : Format → Bytes → Bytes → Bytes → List State
solve_states F b first second =
    states (answer (tidy_tests F b (room first second)) (solve_trace (fits F (room first second)) (formula F b)))
