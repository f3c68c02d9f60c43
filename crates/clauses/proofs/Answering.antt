-- The answer of Clauses from what is surveyed and written.
-- Assumes nothing.
use mathlib.Core.Path.{◌≡◌, sym, ap, ap₂, ◌∙◌}
use mathlib.Core.Bool.{Bool, true, false}
use mathlib.Core.List.{List, []}
use Prim.Native.Nat.{ℕ, ◌+◌, ◌-◌, ◌≤◌, ◌<◌}
use native.Mathlib.Omega.{arith}
use lib.ListN.{length}
use borrow.Author.Tests.{lt-ltb, le-ltb}
use Rattle.formula.specs.Tree.{Formula}
use Rattle.formula.specs.Outer.{unused}
use Rattle.formula.specs.Clausal.{conjuncts, named_all, too_few_names}
use Rattle.sheet.specs.Format as sheets
use Rattle.sheet.specs.Format.{Bytes}
use Rattle.sheet.specs.Sheet.{formula, sheet}
use Rattle.sheet.specs.Check.{refused, accepted, answer, check_tests, check}
use Rattle.sheet.specs.Operations.{Written, padded}
use Rattle.sheet.specs.Strategy.{fits_output}
use Rattle.sheet.specs.Clauses.{clauses_of, clauses_tests, clauses_call}
use Rattle.sheet.proofs.Tests.{refused_first}
use Rattle.sheet.proofs.Writing.{written, write_refused, write_accepted}
use Rattle.sheet.proofs.Limits.{unused-count}
use Rattle.sheet.proofs.Accepted.{accepted_within, accepted_variables}
use Rattle.sheet.proofs.Clauses.{clauses_18, clauses-13, clauses-none}
use Rattle.rows.specs.Formats.{format_of}
use Rattle.rows.specs.Layouts.{format_in}
use Rattle.rows.specs.Formulas.{formula_in}
use Rattle.rows.specs.declared.Format.{Format}
use Rattle.rows.specs.declared.Layout.{Layout}
use Rattle.checking.specs.Sheets.{Sheet}
use Rattle.checking.proofs.CheckedSheets.{sheet_format, sheet-formula_in, sheet_right, sheet_readable}
use Rattle.clauses.specs.declared.survey.Size.{Size}
use Rattle.clauses.specs.Inner.Survey.{Surveyed, Clausable}
use Rattle.clauses.proofs.Surveying.{few_rows}
use Rattle.clauses.proofs.Sheets.{new_is, nodes-new, variables-new}

-- a refused call alters no byte
pub refused_call : {n i : ℕ} (F : sheets.Format) (b out : Bytes) → refused n i ≡ answer (clauses_tests F b (length out)) (length out)
    → record { answer = refused n i; output = out } ≡ clauses_call F b out
unfolding clauses_call
refused_call F b out h = written (write_refused (clauses_tests F b (length out)) (length out) _ out h)

module _ {b : Bytes} {s : Layout} {table : List ℕ} {z : Size} (h : Sheet s.format b s) (v : Surveyed s b table z) where
  abbrev F : sheets.Format
  F = format_in s

  pub few_lines : z.rows ≤ 40960
  few_lines = omega (arith, v.rows_are [], few_rows b (sheet_readable h) [])

  pub few_variables : s.variables ≤ (format_in s).most_variables
  few_variables = (sheet_right h).few_variables

  -- how many numbers are left, and names needed
  left : length (unused (formula F b).prefix F.most_variables 1) ≡ F.most_variables - s.variables
  left =
      omega (
        arith,
        unused-count F (formula F b) (accepted_within F b h.tests_pass),
        accepted_variables F b h.tests_pass,
        (sheet_right h).variables_are,
      )

  needed : z.names ≡ named_all (conjuncts (formula F b).matrix)
  unfolding formula_in
  needed = v.names_are ∙ ap (λ (g : Formula). named_all (conjuncts g.matrix)) (sheet-formula_in h)

  pub too_few : F.most_variables - s.variables < z.names → too_few_names (format_in s).most_variables (formula (format_in s) b) ≡ true
  unfolding too_few_names
  too_few l = lt-ltb (length (unused (formula F b).prefix F.most_variables 1)) (named_all (conjuncts (formula F b).matrix)) (omega (arith, left, needed, l))

  pub enough : z.names ≤ F.most_variables - s.variables → too_few_names (format_in s).most_variables (formula (format_in s) b) ≡ false
  unfolding too_few_names
  enough l = le-ltb (length (unused (formula F b).prefix F.most_variables 1)) (named_all (conjuncts (formula F b).matrix)) (omega (arith, left, needed, l))

  pub no_numbers : (out : Bytes) → F.most_variables - s.variables < z.names → record { answer = refused 18 0; output = out } ≡ clauses_call (format_in s) b out
  no_numbers out l = refused_call F b out (sym (clauses_18 F b (length out) h.tests_pass (length out) (too_few l)))

module _ {b : Bytes} {s : Layout} {ends table : List ℕ} {z : Size} (h : Clausable b s ends table z) (out : Bytes) {m : Bool}
    (is : m ≡ sheets.fits (format_in s) (length out) (s.variables + z.names) (z.rows + 1)) where
  fit_is : fits_output (format_in s) (length out) (clauses_of (format_in s) b) ≡ m
  fit_is =
      ap (fits_output (format_in s) (length out)) (sym (new_is h)) ∙ ap₂ (sheets.fits (format_in s) (length out)) (variables-new h) (sym (nodes-new h)) ∙ sym is

  pub no_place : m ≡ false → record { answer = refused 13 0; output = out } ≡ clauses_call (format_in s) b out
  no_place e = refused_call (format_in s) b out (sym (clauses-13 (format_in s) b (length out) h.checked.tests_pass (length out) h.enough (fit_is ∙ e)))

  pub has_place : m ≡ true → fits_output (format_in s) (length out) (clauses_of (format_in s) b) ≡ true
  has_place e = fit_is ∙ e

  pub written_call : m ≡ true → {n : ℕ} {new : Bytes} → n ≡ length (sheet (format_in s) (clauses_of (format_in s) b))
      → new ≡ padded (length out) (sheet (format_in s) (clauses_of (format_in s) b)) → record { answer = accepted n; output = new } ≡ clauses_call (format_in s) b out
  unfolding clauses_call
  written_call e l w =
      let call = write_accepted (clauses_tests (format_in s) b (length out)) (sheet (format_in s) (clauses_of (format_in s) b)) out
      (clauses-none (format_in s) b (length out) h.checked.tests_pass (length out) h.enough (fit_is ∙ e)) in
      written (ap accepted l ∙ call.0, w ∙ call.1)

-- Check refuses
pub unchecked_call : (f : Format) (b out : Bytes) {n i : ℕ} → refused n i ≡ check (format_of f) b → record { answer = refused n i; output = out } ≡ clauses_call (format_of f) b out
unfolding check clauses_tests
unchecked_call f b out h = refused_call (format_of f) b out (refused_first (check_tests (format_of f) b) _ _ (length out) h)

-- the layout's own format
pub own_call : {f : Format} {b : Bytes} {s : Layout} (out : Bytes) {w : Written} → Sheet f b s → w ≡ clauses_call (format_in s) b out → w ≡ clauses_call (format_of f) b out
own_call {b = b} out h e = e ∙ ap (λ g. clauses_call (format_of g) b out) (sheet_format h)
