-- Who can force the line, on bytes (N9): refusals, answer and final buffers.
-- Assumes nothing.
use Rattle.std.specs.Prelude.{◌≡◌, Bool, true, false, not, ◌&&◌, List, [], ◌∷◌, ◌++◌, map, ℕ, eqb, ltb, leb, length, replicate}
use Rattle.formula.specs.Tree.{Quantifier}
use Rattle.formula.specs.Force.{Forced, neither, turn_after, forced, allows_some}
use Rattle.sheet.specs.Format.{Bytes, Format, fits, variables}
use Rattle.sheet.specs.Sheet.{formula}
use Rattle.sheet.specs.Refusals.{no_room, bad_value, too_many_values}
use Rattle.sheet.specs.Check.{Answer, refused, accepted, Test, test, answer, check_tests}
use Rattle.sheet.specs.Trace.{room}

-- the values given, a byte each
unfoldable pub are_values : Bytes → Bool
are_values [] = true
are_values (v ∷ vs) = leb v 1 && are_values vs

abbrev pub value_of : ℕ → Bool
value_of v = eqb v 1

abbrev pub values_of : Bytes → List Bool
values_of vs = map value_of vs

-- 1 to 8; 21 a value isn't 0 or 1; 22 the values are as many as V or more; 13 a work buffer shorter than the sheet
unfoldable pub force_tests : Format → Bytes → Bytes → ℕ → List Test
force_tests F b vs len =
    check_tests F b ++
    (test (not (are_values vs)) bad_value 0 ∷ test (not (ltb (length vs) (variables F b))) too_many_values 0 ∷ test (ltb len (length b)) no_room 0 ∷ [])

-- "whose turn is next and with which of 0 and 1 its owner can force the outcome wanted"
pub record Panel : Type 0 where
  pub turn : Quantifier
  pub outcome : Forced

unfoldable pub panel : Format → Bytes → Bytes → ℕ → Panel
panel F b vs len =
    record { turn = turn_after (values_of vs) (formula F b); outcome = forced (fits F len) (values_of vs) (formula F b) }

pub record Forcing : Type 0 where
  pub answer : Answer Panel
  pub first : Bytes
  pub second : Bytes

-- "both work buffers .. end as zeros"; refused, no byte changes
unfoldable pub buffer_after : Answer Panel → Bytes → Bytes
buffer_after (refused n i) buffer = buffer
buffer_after (accepted a) buffer = replicate (length buffer) 0

unfoldable pub force_call : Format → Bytes → Bytes → Bytes → Bytes → Forcing
force_call F b vs first second =
    let a = answer (force_tests F b vs (room first second)) (panel F b vs (room first second)) in
    record { answer = a; first = buffer_after a first; second = buffer_after a second }

-- An answer beside a truth value: some value wins exactly if it is true, and the answer is "neither" exactly if it is false.
pub record Ties (o : Forced) (wins : Bool) : Type 0 where
  pub some_wins : allows_some o ≡ wins
  pub on_neither : o ≡ neither → wins ≡ false
  pub neither_on : wins ≡ false → o ≡ neither
