-- Join on bytes: the verdict of 2 to the k answers, a byte each.
-- Assumes nothing.
use Rattle.std.specs.Prelude.{◌≡◌, Bool, true, not, ◌&&◌, cond, List, [], ◌∷◌, ◌++◌, map, ℕ, ◌^◌, eqb, ltb, leb, length}
use Rattle.std.proofs.Math.Option.{none, some}
use Rattle.formula.specs.Tree.{Formula}
use Rattle.formula.specs.Truth.{truth}
use Rattle.formula.specs.Force.{given}
use Rattle.formula.specs.Join.{Answer as Known, join_answers, answer_for}
use Rattle.sheet.specs.Format.{Bytes, Format, variables}
use Rattle.sheet.specs.Sheet.{formula}
use Rattle.sheet.specs.Refusals.{too_many_values, wrong_answers, bad_answer}
use Rattle.sheet.specs.Check.{Answer, Test, test, answer, check_tests}

-- 0 false, 1 true, 2 unknown
abbrev pub known_of : ℕ → Known
known_of a = cond (eqb a 2) none (some (eqb a 1))

abbrev pub answers_of : Bytes → List Known
answers_of xs = map known_of xs

unfoldable pub are_answers : Bytes → Bool
are_answers [] = true
are_answers (a ∷ xs) = leb a 2 && are_answers xs

-- 1 to 8; 22 k above V; 28 not 2 to the k answers; 29 an answer isn't 0, 1 or 2
unfoldable pub join_tests : Format → Bytes → ℕ → Bytes → List Test
join_tests F b k xs =
    check_tests F b ++
    (test (ltb (variables F b) k) too_many_values 0 ∷
    test (not (eqb (length xs) (2 ^ k))) wrong_answers 0 ∷
    test (not (are_answers xs)) bad_answer 0 ∷
    [])

unfoldable pub join_call : Format → Bytes → ℕ → Bytes → Answer Known
join_call F b k xs = answer (join_tests F b k xs) (join_answers k (formula F b) (answers_of xs))

-- each answer that is known is the truth of the sheet that Split writes for its values
abbrev pub RightAnswers : Formula → ℕ → Bytes → Type 0
RightAnswers f k xs = (bs : List Bool) (v : Bool) → length bs ≡ k → answer_for bs (answers_of xs) ≡ some v → v ≡ truth (given bs f)
