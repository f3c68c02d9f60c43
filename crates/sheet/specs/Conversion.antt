-- Conversion of sheets from one format to the other (N11).
-- Assumes nothing.
use Rattle.std.specs.Prelude.{◌≡◌, Bool, true, false, ◌&&◌, ◌||◌, List, [], ◌∷◌, ◌++◌, ℕ, ltb, leb, length}
use Rattle.formula.specs.Truth.{truth}
use Rattle.sheet.specs.Format.{Bytes, Format, narrow, wide, Row, sheet_length, variables, nodes, all_rows}
use Rattle.sheet.specs.Sheet.{formula, sheet}
use Rattle.sheet.specs.Refusals.{no_room, not_narrow}
use Rattle.sheet.specs.Check.{Test, test, passes, check_tests, check}
use Rattle.sheet.specs.Operations.{Written, write}

-- the sheet of the same rows in the other format
unfoldable pub carried : Format → Format → Bytes → Bytes
carried F G b = sheet G (formula F b)

-- a variable number above the most: kinds 1 to 4 have one
unfoldable pub above : ℕ → List Row → Bool
above most [] = false
above most (r ∷ rs) = leb r.kind 4 && ltb most r.argument || above most rs

-- a size or a number above the limits of the other format
unfoldable pub beyond : Format → Format → Bytes → Bool
beyond F G b =
    ltb G.most_variables (variables F b) || ltb G.most_nodes (nodes F b) || above G.most_variables (all_rows F b)

-- 13 output shorter than the other format's sheet
abbrev pub converted_room_test : Format → Format → Bytes → ℕ → Test
converted_room_test F G b len = test (ltb len (sheet_length G (variables F b) (nodes F b))) no_room 0

-- To the wide format: 1 to 8 of the narrow format; 13
unfoldable pub to_wide_tests : Bytes → ℕ → List Test
to_wide_tests b len = check_tests narrow b ++ (converted_room_test narrow wide b len ∷ [])

unfoldable pub to_wide_call : Bytes → Bytes → Written
to_wide_call b out = write (to_wide_tests b (length out)) (carried narrow wide b) out

-- To the narrow format: 1 to 8 of the wide format; 24 a number or size above the narrow limits; 13
unfoldable pub to_narrow_tests : Bytes → ℕ → List Test
to_narrow_tests b len = check_tests wide b ++ (test (beyond wide narrow b) not_narrow 0 ∷ converted_room_test wide narrow b len ∷ [])

unfoldable pub to_narrow_call : Bytes → Bytes → Written
to_narrow_call b out = write (to_narrow_tests b (length out)) (carried wide narrow b) out

-- What a sheet and its conversion have in common: Check accepts both with the same V and N, and rows, formula and truth are the same.
pub record Converted (F G : Format) (b new : Bytes) : Type 0 where
  pub same_sizes : check G new ≡ check F b
  pub is_accepted : passes (check_tests G new) ≡ true
  pub same_rows : all_rows G new ≡ all_rows F b
  pub same_formula : formula G new ≡ formula F b
  pub same_truth : truth (formula G new) ≡ truth (formula F b)
