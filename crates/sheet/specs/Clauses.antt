-- Clauses on bytes (Certificates): its refusals, its answer and the final bytes of its output.
-- Assumes nothing.
use Rattle.std.specs.Prelude.{◌≡◌, true, not, List, [], ◌∷◌, ◌++◌, ℕ, length}
use Rattle.formula.specs.Tree.{Formula}
use Rattle.formula.specs.Truth.{truth}
use Rattle.formula.specs.Reduce.{in_profile}
use Rattle.formula.specs.Clausal.{too_few_names, clausal}
use Rattle.sheet.specs.Format.{Bytes, Format}
use Rattle.sheet.specs.Sheet.{formula, sheet}
use Rattle.sheet.specs.Refusals.{no_room, no_numbers_left}
use Rattle.sheet.specs.Check.{Test, test, passes, check_tests}
use Rattle.sheet.specs.Operations.{Written, write}
use Rattle.sheet.specs.Strategy.{fits_output}

-- the clauses of a sheet's formula; names go up to the format's highest number
abbrev pub clauses_of : Format → Bytes → Formula
clauses_of F b = clausal F.most_variables (formula F b)

-- 1 to 8; 18 fewer numbers are left than names; 13 the clauses don't fit the format's rows or the output
unfoldable pub clauses_tests : Format → Bytes → ℕ → List Test
clauses_tests F b len =
    check_tests F b ++
    (test (too_few_names F.most_variables (formula F b)) no_numbers_left 0 ∷
    test (not (fits_output F len (clauses_of F b))) no_room 0 ∷
    [])

unfoldable pub clauses_call : Format → Bytes → Bytes → Written
clauses_call F b out = write (clauses_tests F b (length out)) (sheet F (clauses_of F b)) out

-- what an accepted Clauses writes: a sheet of the clause profile, of the same truth
pub record Clausal (F : Format) (b b' : Bytes) : Type 0 where
  pub is_accepted : passes (check_tests F b') ≡ true
  pub are_clauses : formula F b' ≡ clauses_of F b
  pub of_profile : in_profile (formula F b').matrix ≡ true
  pub same_truth : truth (formula F b') ≡ truth (formula F b)
