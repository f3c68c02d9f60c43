-- Expansion one block out on sheets (N6): the order of its last tests, and that what is tested for room is the raw formula.
-- Assumes nothing.
use mathlib.Core.Path.{◌≡◌, refl, sym, ◌∙◌, ap₂}
use mathlib.Core.Bool.{true, false}
use mathlib.Core.List.{◌++◌}
use Prim.Native.Nat.{ℕ, ◌+◌, ◌-◌}
use native.Mathlib.Omega.{arith}
use lib.ListN.{length}
use Rattle.formula.specs.Tree.{rows, binds}
use Rattle.formula.specs.Outer.{one_block_out, too_few, raw_outer, outer_rows}
use Rattle.formula.proofs.Closed.{length_without}
use Rattle.formula.proofs.Outer.Step.{length-raw_outer, copies_many, rows-raw_outer}
use Rattle.sheet.specs.Format.{Bytes, Format, fits, variables}
use Rattle.sheet.specs.Sheet.{formula}
use Rattle.sheet.specs.Check.{refused, answer, passes, check_tests}
use Rattle.sheet.specs.Operations.{write, tidy_and_bound_tests}
use Rattle.sheet.specs.Outer.{copies, outer_tests, outer_call}
use Rattle.sheet.proofs.Tests.{answer-++}
use Rattle.sheet.proofs.Accepted.{accepted_variables}

module _ (F : Format) (b : Bytes) (x : ℕ) (passed : passes (check_tests F b ++ tidy_and_bound_tests F b x) ≡ true) where
  -- 11 comes before 18, whichever numbers are left
  pub outer_block_first : (out : Bytes) → one_block_out x (formula F b) ≡ false → (outer_call F b x out).answer ≡ refused 11 0
  unfolding outer_call write outer_tests answer
  outer_block_first out h = answer-++ (check_tests F b ++ tidy_and_bound_tests F b x) _ _ passed ∙ rw h refl

  -- 18 before 13, whatever the output
  pub outer_numbers_first : (out : Bytes) → one_block_out x (formula F b) ≡ true → too_few F.most_variables x (formula F b) ≡ true
      → (outer_call F b x out).answer ≡ refused 18 0
  unfolding outer_call write outer_tests answer
  outer_numbers_first out h e = answer-++ (check_tests F b ++ tidy_and_bound_tests F b x) _ _ passed ∙ rw (h, e) refl

-- what has to fit: the variables of the raw formula and its rows
pub outer_room : (F : Format) (b : Bytes) (x len : ℕ) → passes (check_tests F b) ≡ true → binds (formula F b).prefix x ≡ true
    → too_few F.most_variables x (formula F b) ≡ false
    → fits F len (variables F b - 1 + copies F b x) (outer_rows x (formula F b)) ≡
    fits F len (length (raw_outer F.most_variables x (formula F b)).prefix) (rows (raw_outer F.most_variables x (formula F b)).matrix)
unfolding copies
outer_room F b x len h k e =
    let H = F.most_variables in
    let f = formula F b in
    ap₂ (fits F len) (omega (arith, length-raw_outer H x f k, copies_many H x f e, accepted_variables F b h, length_without x f.prefix k)) (sym (rows-raw_outer H x f))
