-- A list of steps between two turns: the sheet held is at the front of the first buffer.
-- Assumes nothing.
use Rattle.std.specs.Prelude.{◌≡◌, true, List, map, ℕ, ◌-◌, ◌≤◌, min, length, take, Result, Ok, Err}
use Rattle.sheet.specs.Format.{Bytes, Format}
use Rattle.sheet.specs.Check.{answer, passes}
use Rattle.sheet.specs.Operations.{tidy_tests}
use Rattle.sheet.specs.Steps.{call_of, after, fill, filled, given, reached}
use Rattle.rows.specs.Refusals.{refused_by}
use Rattle.rows.specs.declared.refusals.Refusal.{Refusal}
use Rattle.step_list.specs.declared.Step.{Step}
use Rattle.step_list.specs.declared.Turn.{Turn}
use Rattle.step_list.specs.Inner.Records.{step_of}

abbrev pub room : Bytes → Bytes → ℕ
room first second = min (length first) (length second)

-- the outcome of the tests of the whole list; if they pass, the sheet is at the front of the first buffer
abbrev pub Begins : Format → Bytes → Bytes → Bytes → Bytes → Result (Unit {0}) Refusal → Type 0
Begins F b first second first' (Err e) = (refused_by e ≡ answer (tidy_tests F b (room first second)) b) × (first' ≡ first)
Begins F b first second first' (Ok passed) =
    (passes (tidy_tests F b (room first second)) ≡ true) × (length b ≤ room first second) × (take (length b) first' ≡ b) ×
    (length first' ≡ length first)

-- an accepted sheet can be copied back, and is then the one held; a refused call leaves the one held
abbrev pub Kept : Bytes → Bytes → Result ℕ Refusal → Type 0
Kept first second (Err e) = Unit {0}
Kept first second (Ok n) = (n ≤ length first) × (n ≤ length second)

abbrev pub Keeps : ℕ → Bytes → Bytes → Bytes → ℕ → Result ℕ Refusal → Type 0
Keeps held first second first' held' (Err e) = (held' ≡ held) × (first' ≡ first)
Keeps held first second first' held' (Ok n) = (held' ≡ n) × (take n first' ≡ take n second)

-- the turn of a record: it is filled, and the sheet then held is at the front of the first buffer, no longer than the shorter buffer
pub record Took (F : Format) (s : Step) (held : ℕ) (first second first' : Bytes) (t : Turn) : Type 0 where
  pub fills : step_of t.step ≡ fill F (room first second) (step_of s) (take held first)
  pub sheet_held : take t.held first' ≡ (after F (call_of (room first second) (step_of s)) (given (take held first))).sheet
  pub is_short : t.held ≤ room first second

-- a list of records from the sheet held on: each is filled, and the sheet that they end with is at the front of the first buffer
pub record Follows (F : Format) (steps : List Step) (held : ℕ) (first second : Bytes) (steps' : List Step) (first' : Bytes) (held' : ℕ) : Type 0 where
  pub fills : map step_of steps' ≡ filled F (room first second) (map step_of steps) (given (take held first))
  pub sheet_held : take held' first' ≡ reached F (room first second) (map step_of steps) (take held first) (length steps)
  pub is_short : held' ≤ room first second
