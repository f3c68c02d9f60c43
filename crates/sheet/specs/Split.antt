-- Split on bytes: the sheet for one list of values of the first variables.
-- Assumes nothing.
use Rattle.std.specs.Prelude.{◌≡◌, true, not, List, [], ◌∷◌, ◌++◌, ℕ, ◌-◌, ltb, length}
use Rattle.formula.specs.Tree.{Formula}
use Rattle.formula.specs.Force.{given}
use Rattle.sheet.specs.Format.{Bytes, Format, sheet_length, variables, nodes}
use Rattle.sheet.specs.Sheet.{formula, sheet}
use Rattle.sheet.specs.Refusals.{no_room, bad_value, too_many_values}
use Rattle.sheet.specs.Check.{Test, test, passes, check_tests}
use Rattle.sheet.specs.Operations.{Written, write}
use Rattle.sheet.specs.Force.{are_values, values_of}

-- 1 to 8; 21 a value isn't 0 or 1; 22 more values than V; 13 output shorter than the sheet of the rows left
unfoldable pub split_tests : Format → Bytes → Bytes → ℕ → List Test
split_tests F b vs len =
    check_tests F b ++
    (test (not (are_values vs)) bad_value 0 ∷
    test (ltb (variables F b) (length vs)) too_many_values 0 ∷
    test (ltb len (sheet_length F (variables F b - length vs) (nodes F b))) no_room 0 ∷
    [])

-- "the sheet without the rows of the values given .., with constants for their literals", as Force judges it; it isn't tidied
abbrev pub under : Bytes → Formula → Formula
under vs f = given (values_of vs) f

unfoldable pub split_call : Format → Bytes → Bytes → Bytes → Written
split_call F b vs out = write (split_tests F b vs (length out)) (sheet F (under vs (formula F b))) out

-- what an accepted Split writes
pub record Splits (F : Format) (b vs b' : Bytes) : Type 0 where
  pub is_accepted : passes (check_tests F b') ≡ true
  pub is_under : formula F b' ≡ under vs (formula F b)
