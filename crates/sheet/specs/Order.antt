-- Sort and Compare: answers and final bytes (N14).
-- Assumes nothing.
use Rattle.std.specs.Prelude.{List, [], ◌∷◌, ◌++◌, ℕ, ltb, length, replicate}
use Rattle.formula.specs.Order.{Ordering, sorted, compare_formulas}
use Rattle.sheet.specs.Format.{Bytes, Format}
use Rattle.sheet.specs.Sheet.{formula, sheet}
use Rattle.sheet.specs.Refusals.{no_room}
use Rattle.sheet.specs.Check.{Answer, refused, accepted, Test, test, answer, check_tests, check}
use Rattle.sheet.specs.Operations.{Written, write}

-- 13 a buffer shorter than the sheet
abbrev pub room_test : Bytes → Bytes → Test
room_test b buffer = test (ltb (length buffer) (length b)) no_room 0

-- Sort: 1 to 8; 13
unfoldable pub sort_tests : Format → Bytes → Bytes → List Test
sort_tests F b out = check_tests F b ++ (room_test b out ∷ [])

unfoldable pub sort_call : Format → Bytes → Bytes → Written
sort_call F b out = write (sort_tests F b out) (sheet F (sorted (formula F b))) out

-- Compare: refused for the first sheet (1) or the second (2), with number and place; or the order in which the two stand
pub data Compared : Type 0 where
  is_refused : ℕ → ℕ → ℕ → Compared
  is_ordered : Ordering → Compared

unfoldable pub for_sheet : {A : Type 0} → ℕ → Answer A → Compared → Compared
for_sheet which (refused n i) c = is_refused which n i
for_sheet which (accepted a) c = c

unfoldable pub room : Bytes → Bytes → Answer ℕ
room b buffer = answer (room_test b buffer ∷ []) (length b)

-- 1 to 8 for the first sheet, then for the second; 13 unless each of the two work buffers holds its sheet
unfoldable pub compare_answer : Format → Bytes → Bytes → Bytes → Bytes → Compared
compare_answer F a b first second =
    for_sheet 1 (check F a)
    (for_sheet 2 (check F b)
    (for_sheet 1 (room a first) (for_sheet 2 (room b second) (is_ordered (compare_formulas (formula F a) (formula F b))))))

pub record Comparing : Type 0 where
  pub answer : Compared
  pub first : Bytes
  pub second : Bytes

-- both buffers end as zeros; refused, no byte changes
unfoldable pub comparing : Bytes → Bytes → Compared → Comparing
comparing first second (is_refused which n i) = record { answer = is_refused which n i; first = first; second = second }
comparing first second (is_ordered o) =
    record { answer = is_ordered o; first = replicate (length first) 0; second = replicate (length second) 0 }

unfoldable pub compare_call : Format → Bytes → Bytes → Bytes → Bytes → Comparing
compare_call F a b first second = comparing first second (compare_answer F a b first second)
