-- What a stopped answer of Solve shows.
-- Assumes nothing.
use Rattle.std.specs.Prelude.{◌≡◌, ℕ, length}
use mathlib.Core.List.{get_last?}
use Rattle.std.proofs.Math.Option.{some}
use Rattle.formula.specs.Solve.{State}
use Rattle.sheet.specs.Format.{Bytes, Format}
use Rattle.sheet.specs.Sheet.{sheet}
use Rattle.sheet.specs.Operations.{padded}
use Rattle.sheet.specs.Trace.{solve_states}

-- The last state of the call solve(b, first, second) at the format F, with the counts answered. Its sheet is in the first buffer, whose
-- bytes are now `held`.
pub record Stop (F : Format) (b first second held : Bytes) (settled expanded : ℕ) : Type 0 where
  pub state : State
  pub is_last : get_last? (solve_states F b first second) ≡ some state
  pub its_settled : state.settles ≡ settled
  pub its_expanded : state.expands ≡ expanded
  pub its_sheet : held ≡ padded (length first) (sheet F state.formula)
