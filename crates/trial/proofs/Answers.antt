-- What Trial answers, from what Check answers and from the semantic tree.
-- Assumes nothing.
use mathlib.Core.Path.{◌≡◌, sym, ap, ◌∙◌}
use mathlib.Core.List.{[], ◌∷◌}
use Prim.Native.Nat.{ℕ, ◌≤◌, ◌<◌}
use native.Mathlib.Omega.{arith}
use lib.Dec.{ltb}
use lib.ListN.{length, get_or}
use borrow.Author.Tests.{lt-ltb, le-ltb}
use Rattle.formula.specs.Tree.{Formula}
use Rattle.formula.specs.Trial.{Tried, trial}
use Rattle.sheet.specs.Format as sheet
use Rattle.sheet.specs.Format.{Bytes, row, variables}
use Rattle.sheet.specs.Sheet.{binding, formula}
use Rattle.sheet.specs.Refusals.{too_many_to_try}
use Rattle.sheet.specs.Check.{refused, accepted, test, answer, check_tests, check}
use Rattle.sheet.specs.Operations.{trial_call}
use Rattle.sheet.proofs.Tests.{answer-++, refused_first}
use Rattle.sheet.proofs.Limits.{numbered_at}
use Rattle.sheet.proofs.Accepted.{accepted_within}
use Rattle.rows.specs.Formats.{format_of}
use Rattle.rows.specs.Formulas.{prefix_in, formula_in}
use Rattle.rows.specs.Tables.{NUMBERS}
use Rattle.rows.specs.declared.Format.{Format}
use Rattle.rows.specs.declared.Layout.{Layout}
use Rattle.rows.proofs.Formulas.{length_prefix}
use Rattle.rows.proofs.Limits.{limits}
use Rattle.prefixes.specs.Places.{binding_at}
use Rattle.checking.specs.Sheets.{Sheet}
use Rattle.checking.proofs.CheckedSheets.{sheet_right, sheet_readable, sheet-formula_in}
use Rattle.trial.specs.Inner.Turns.{semantic_tree, InTable, Playable}

pub check_refuses : {n i : ℕ} (F : sheet.Format) (b : Bytes) → refused n i ≡ check F b → refused n i ≡ trial_call F b
unfolding check trial_call
check_refuses F b h = refused_first (check_tests F b) _ _ (trial (formula F b)) h

-- a sheet that Check accepts
module _ {f : Format} {b : Bytes} {s : Layout} (h : Sheet f b s) where
  abbrev F : sheet.Format
  F = format_of f

  prefix_of : prefix_in s b ≡ (formula F b).prefix
  unfolding formula_in
  prefix_of = ap (λ (g : Formula). g.prefix) (sheet-formula_in h)

  numbered : InTable s b NUMBERS
  unfolding binding_at
  numbered i less =
      let z = binding (row 0 0) in
      let within : i < length (formula F b).prefix = omega (arith, less, length_prefix b (sheet_readable h), ap length prefix_of) in
      let bound = numbered_at F (formula F b).prefix i z (accepted_within F b h.tests_pass).is_numbered within in
      omega (arith, bound, (limits f).few_variables, ap (λ p. (get_or p i z).variable) prefix_of)

  pub playable : s.variables ≤ 20 → Playable s b NUMBERS
  playable few = record { readable = sheet_readable h; few = few; numbered = numbered }

  trial_tree : semantic_tree s b ≡ trial (formula F b)
  unfolding semantic_tree trial formula_in
  trial_tree = ap trial (sheet-formula_in h)

  last-test : answer (test (ltb 20 s.variables) too_many_to_try 0 ∷ []) (trial (formula F b)) ≡ trial_call F b
  unfolding trial_call
  last-test =
      rw (sheet_right h).variables_are
      (sym (answer-++ (check_tests F b) (test (ltb 20 (variables F b)) too_many_to_try 0 ∷ []) (trial (formula F b)) h.tests_pass))

  -- 14 V above 20
  pub many_refused : 20 < s.variables → refused too_many_to_try 0 ≡ trial_call F b
  unfolding answer
  many_refused many = rw (← last-test, lt-ltb 20 s.variables many)

  pub tree_answered : (t : Tried) → s.variables ≤ 20 → t ≡ semantic_tree s b → accepted t ≡ trial_call F b
  unfolding answer
  tree_answered t few e = rw (← last-test, le-ltb 20 s.variables few) (ap accepted (e ∙ trial_tree))
