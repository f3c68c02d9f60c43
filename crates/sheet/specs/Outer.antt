-- Expansion one block out (N6): its refusals, its answer and the final bytes of its output.
-- Assumes nothing.
use Rattle.std.specs.Prelude.{not, List, [], ◌∷◌, ◌++◌, ℕ, ◌+◌, ◌-◌, length}
use Rattle.formula.specs.Outer.{one_block_out, dependents, too_few, outer_rows, outer_expanded, lowest_of}
use Rattle.sheet.specs.Format.{Bytes, Format, fits, variables}
use Rattle.sheet.specs.Sheet.{formula, sheet}
use Rattle.sheet.specs.Refusals.{wrong_block, no_room, no_numbers_left}
use Rattle.sheet.specs.Check.{Answer, Test, test, answer, check_tests}
use Rattle.sheet.specs.Operations.{Written, write, tidy_and_bound_tests}

-- how many variables are copied
unfoldable pub copies : Format → Bytes → ℕ → ℕ
copies F b x = length (dependents x (formula F b))

-- 18 fewer unused numbers are left than variables to copy
abbrev pub numbers_test : Format → Bytes → ℕ → Test
numbers_test F b x = test (too_few F.most_variables x (formula F b)) no_numbers_left 0

-- 13 the raw sheet doesn't fit: its rows are counted as in Expand, and the copied quantifier rows add to its length only
abbrev pub copied_room_test : Format → Bytes → ℕ → ℕ → Test
copied_room_test F b x len = test (not (fits F len (variables F b - 1 + copies F b x) (outer_rows x (formula F b)))) no_room 0

-- 1 to 8; 9; 10; 11 x is no such variable; 18; 13
unfoldable pub outer_tests : Format → Bytes → ℕ → ℕ → List Test
outer_tests F b x len =
    check_tests F b ++ tidy_and_bound_tests F b x ++
    (test (not (one_block_out x (formula F b))) wrong_block 0 ∷ numbers_test F b x ∷ copied_room_test F b x len ∷ [])

unfoldable pub outer_call : Format → Bytes → ℕ → Bytes → Written
outer_call F b x out =
    write (outer_tests F b x (length out)) (sheet F (outer_expanded F.most_variables x (formula F b))) out

-- accepted, it returns the new length, how many variables are copied, and the lowest (old) number among them, 0 if none
pub record Copied : Type 0 where
  pub new_length : ℕ
  pub copied : ℕ
  pub lowest : ℕ

unfoldable pub outer_answer : Format → Bytes → ℕ → ℕ → Answer Copied
outer_answer F b x len =
    answer (outer_tests F b x len)
    (record {
      new_length = length (sheet F (outer_expanded F.most_variables x (formula F b)));
      copied = copies F b x;
      lowest = lowest_of (dependents x (formula F b));
    })
