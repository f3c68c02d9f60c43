-- What Join answers, from Check's answer, its tests and the answers joined.
-- Assumes nothing.
use mathlib.Core.Path.{◌≡◌, sym, ap, ◌∙◌}
use mathlib.Core.Bool.{Bool, true, false, not}
use Prim.Native.Nat.{ℕ, ◌-◌, ◌^◌, ◌≤◌, ◌<◌}
use native.Mathlib.Omega.{arith}
use lib.Dec.{eqb}
use lib.ListN.{length, take}
use borrow.Author.Tests.{not-true, not-false, eqb-true, eqb-false}
use Rattle.formula.specs.Tree.{Formula}
use Rattle.formula.specs.Join.{Answer as Known, joined, join_answers}
use Rattle.sheet.specs.Format as sheet
use Rattle.sheet.specs.Format.{Bytes, variables}
use Rattle.sheet.specs.Check.{refused, accepted, check_tests, check}
use Rattle.sheet.specs.Join.{answers_of, are_answers, join_tests, join_call}
use Rattle.sheet.proofs.Tests.{refused_first}
use Rattle.sheet.proofs.Join.{join_22, join-28, join-29, join-accepted}
use Rattle.rows.specs.Layouts.{format_in}
use Rattle.rows.specs.Formulas.{prefix_in, formula_in}
use Rattle.rows.specs.declared.Layout.{Layout}
use Rattle.checking.specs.Sheets.{Sheet}
use Rattle.checking.proofs.CheckedSheets.{sheet_right, sheet_readable, sheet-formula_in}
use Rattle.join.specs.Inner.{Joinable, joined_from}

-- 1 to 8
pub unchecked_call : (F : sheet.Format) (b : Bytes) (k : ℕ) (xs : Bytes) {n i : ℕ} → refused n i ≡ check F b → refused n i ≡ join_call F b k xs
unfolding join_call check join_tests
unchecked_call F b k xs e = refused_first (check_tests F b) _ _ _ e

module _ {b : Bytes} {s : Layout} (h : Sheet s.format b s) (k : ℕ) (xs : Bytes) where
  abbrev G : sheet.Format
  G = format_in s

  variables_are : s.variables ≡ variables G b
  variables_are = (sheet_right h).variables_are

  -- 22 k above V
  pub many_call : s.variables < k → refused 22 0 ≡ join_call G b k xs
  many_call l = sym (join_22 G b k xs h.tests_pass (omega (arith, variables_are)))

  module _ (few : k ≤ s.variables) {power : Bool} (is : power ≡ eqb (length xs) (2 ^ k)) where
    inside : k ≤ variables G b
    inside = omega (arith, variables_are)

    -- 28 not 2 to the k answers
    pub count-call : not power ≡ true → refused 28 0 ≡ join_call G b k xs
    count-call n = sym (join-28 G b k xs h.tests_pass inside (eqb-false (length xs) (2 ^ k) (sym is ∙ not-true power n)))

    module _ (n : not power ≡ false) {good : Bool} (e : good ≡ are_answers xs) where
      count : length xs ≡ 2 ^ k
      count = eqb-true (length xs) (2 ^ k) (sym is ∙ not-false power n)

      -- 29 an answer isn't 0, 1 or 2
      pub bad_call : not good ≡ true → refused 29 0 ≡ join_call G b k xs
      bad_call m = sym (join-29 G b k xs h.tests_pass inside count (sym e ∙ not-true good m))

      module _ (m : not good ≡ false) where
        are-good : are_answers xs ≡ true
        are-good = sym e ∙ not-false good m

        pub joinable : Joinable s b xs 0 k
        joinable =
            record {
              readable = sheet_readable h;
              before = omega arith;
              inside = few;
              count = count ∙ ap (λ (j : ℕ). 2 ^ j) whole;
              good = are-good;
            }
          where
            whole : k ≡ k - 0
            whole = omega arith

        pub joined-call : {a : Known} → a ≡ joined_from s b xs 0 k → accepted a ≡ join_call G b k xs
        unfolding join_answers formula_in
        joined-call f =
            ap accepted
            (f ∙ ap (λ (j : ℕ). joined (take j (prefix_in s b)) (answers_of xs)) whole ∙
            ap (λ (g : Formula). joined (take k g.prefix) (answers_of xs)) (sheet-formula_in h)) ∙
            sym (join-accepted G b k xs h.tests_pass inside count are-good)
          where
            whole : k - 0 ≡ k
            whole = omega arith
