-- What accepted calls of the operations that write a sheet leave at the front of the output.
-- Assumes nothing.
use Rattle.std.specs.Prelude.{◌≡◌, true, not, ◌&&◌, ◌↔◌, ◌≤◌, ℕ, ◌-◌, length, take, drop, replicate}
use Rattle.formula.specs.Tidy.{is_tidy, tidied}
use Rattle.formula.specs.Tree.{rows}
use Rattle.formula.specs.Truth.{truth}
use Rattle.formula.specs.Reduce.{in_profile, reduced}
use Rattle.formula.specs.Order.{sorted, nearly_tidy, siblings, alike}
use Rattle.sheet.specs.Format.{Bytes, AllBytes, Format}
use Rattle.sheet.specs.Sheet.{formula, sheet}
use Rattle.sheet.specs.Check.{passes, check_tests, accepted, check}
use Rattle.sheet.specs.Qdimacs.{qdimacs}

-- a sheet that Check accepts and that is tidy
pub record Good (F : Format) (b : Bytes) : Type 0 where
  pub is_accepted : passes (check_tests F b) ≡ true
  pub is_neat : is_tidy (formula F b).matrix ≡ true

-- Tidy: a tidy sheet of the same prefix and the same truth, with no more rows, which tidying doesn't alter; it is the sheet given exactly
-- if that one is tidy (N4).
pub record Tidied (F : Format) (b b' : Bytes) : Type 0 where
  pub good : Good F b'
  pub same_prefix : (formula F b').prefix ≡ (formula F b).prefix
  pub same_truth : truth (formula F b') ≡ truth (formula F b)
  pub no_more_rows : rows (formula F b').matrix ≤ rows (formula F b).matrix
  pub unchanged : AllBytes b → (b' ≡ b) ↔ (is_tidy (formula F b).matrix ≡ true)
  pub fixed_point : tidied (formula F b') ≡ formula F b'

-- Reduce: of the clause profile again, which reducing doesn't alter (N8)
pub record Reduced (F : Format) (b b' : Bytes) : Type 0 where
  pub good : Good F b'
  pub same_prefix : (formula F b').prefix ≡ (formula F b).prefix
  pub same_truth : truth (formula F b') ≡ truth (formula F b)
  pub no_more_rows : rows (formula F b').matrix ≤ rows (formula F b).matrix
  pub profile_again : in_profile (formula F b').matrix ≡ true
  pub fixed_point : reduced (formula F b') ≡ formula F b'

-- Sort (N14)
pub record Sorted (F : Format) (b b' : Bytes) : Type 0 where
  pub is_accepted : passes (check_tests F b') ≡ true
  pub is_sorted : formula F b' ≡ sorted (formula F b)
  pub same_truth : truth (formula F b') ≡ truth (formula F b)
  pub same_length : length b' ≡ length b
  -- Sorting can make siblings equal: every other limit is kept, and the sheet is tidy if no two siblings differ in the order of children
  -- alone.
  pub nearly_as_tidy : nearly_tidy (formula F b').matrix ≡ nearly_tidy (formula F b).matrix
  pub when_tidy : is_tidy (formula F b').matrix ≡ (nearly_tidy (formula F b).matrix && not (siblings alike (formula F b).matrix))
  pub tidy_before : is_tidy (formula F b').matrix ≡ true → is_tidy (formula F b).matrix ≡ true
  pub sorted_again : sheet F (sorted (formula F b')) ≡ b'

-- The reader of QDIMACS, for a call that returns n (N1): the output is as long as before. Its front is a sheet that Check accepts, with as
-- many rows as prefix and matrix have, and its formula is the text's; behind it are zeros.
pub record TextRead (F : Format) (t out : Bytes) (n : ℕ) (new : Bytes) : Type 0 where
  pub same_length : length new ≡ length out
  pub is_checked : check F (take n new) ≡ accepted (record { variables = length (qdimacs t).prefix; nodes = rows (qdimacs t).matrix })
  pub same_formula : formula F (take n new) ≡ qdimacs t
  pub zeros_behind : drop n new ≡ replicate (length out - n) 0
