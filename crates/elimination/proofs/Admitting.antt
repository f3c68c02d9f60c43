-- 9 and 10, in this order, from what is read of a sheet that Check accepts.
-- Assumes nothing.
use mathlib.Core.Path.{◌≡◌, sym, ap, ◌∙◌}
use mathlib.Core.Bool.{true, not, ◌&&◌, cond}
use mathlib.Core.List.{List, [], ◌∷◌}
use Prim.Native.Nat.{ℕ, ◌+◌, ◌≤◌, ◌<◌}
use native.Mathlib.Omega.{arith}
use lib.ListN.{length}
use borrow.Author.Tests.{lt-ltb, le-ltb}
use Rattle.formula.specs.Tree.{Tree, Formula, binds, distinct}
use Rattle.formula.specs.Tidy.{is_tidy, first_fault}
use Rattle.sheet.specs.Format as sheet
use Rattle.sheet.specs.Format.{Bytes, row, variables}
use Rattle.sheet.specs.Sheet.{formula, binding}
use Rattle.sheet.specs.Check.{refused, Test, test, answer, passes, check_tests}
use Rattle.sheet.specs.Operations.{tidy_and_bound_tests}
use Rattle.sheet.proofs.Limits.{binds-numbered, numbered_at}
use Rattle.sheet.proofs.Accepted.{accepted_within}
use Rattle.sheet.proofs.Tests.{passes-++, answer-++}
use Rattle.rows.specs.Formats.{format_of}
use Rattle.rows.specs.Layouts.{format_in}
use Rattle.rows.specs.Formulas.{prefix_in, matrix_in, formula_in}
use Rattle.rows.specs.declared.Format.{Format}
use Rattle.rows.specs.declared.Layout.{Layout}
use Rattle.rows.proofs.Formulas.{length_prefix, rows-nodes}
use Rattle.rows.proofs.Limits.{limits}
use Rattle.checking.specs.Sheets.{Sheet}
use Rattle.checking.proofs.CheckedSheets.{sheet_format, sheet_right, sheet_readable, sheet-formula_in}
use Rattle.subtrees.specs.Ends.{Indexed}
use Rattle.prefixes.specs.Places.{place, binding_at}
use Rattle.prefixes.proofs.Places.{binds-place}
use Rattle.tidiness.proofs.Tidiness.{tidy_by, fault_by}
use Rattle.polarity.specs.Value.{Numbered, Bound}
use Rattle.elimination.specs.Steps.{Steppable}
use Rattle.elimination.specs.Admission.{admission_tests, Admitted}

-- a sheet that Check accepts: its prefix has no number twice and none past the tables, and it is within its format's limits
module _ {f : Format} {b : Bytes} {s : Layout} (h : Sheet f b s) where
  pub sheet-numbered : Numbered s b
  unfolding formula_in binding_at
  sheet-numbered =
      let F = format_of f in
      let same = ap (λ (g : Formula). g.prefix) (sheet-formula_in h) in
      let numbers = (accepted_within F b h.tests_pass).is_numbered in
      record {
        few_numbers =
            λ i l. rw same
            (omega (
              arith,
              (limits f).few_variables,
              numbered_at F (formula F b).prefix i (binding (row 0 0)) numbers
                  (omega (arith, ap length same, length_prefix b (sheet_readable h), l)),
            ));
      }

  pub sheet-bound : Bound s b
  unfolding formula_in
  sheet-bound =
      record {
        is_distinct = ap (λ (g : Formula). distinct g.prefix) (sheet-formula_in h) ∙ (accepted_within (format_of f) b h.tests_pass).is_distinct;
        numbered = sheet-numbered;
      }

  pub sheet_steppable : Steppable s b
  sheet_steppable =
      record {
        readable = sheet_readable h;
        few_variables = rw (sheet_format h) (sheet_right h).few_variables;
        few_nodes = rw (sheet_format h) (sheet_right h).few_nodes;
      }

module _ {b : Bytes} {s : Layout} (h : Sheet s.format b s) (x : ℕ) where
  abbrev F : sheet.Format
  F = format_in s

  abbrev t : Tree
  t = matrix_in s b

  -- the tests as they are read
  read_tests : List Test
  read_tests = test (not (is_tidy t)) 9 (s.variables + first_fault t) ∷ test (not (binds (prefix_in s b) x)) 10 0 ∷ []

  same_tests : read_tests ≡ tidy_and_bound_tests F b x
  unfolding read_tests tidy_and_bound_tests formula_in
  same_tests =
      ap (λ (v : ℕ). test (not (is_tidy t)) 9 (v + first_fault t) ∷ test (not (binds (prefix_in s b) x)) 10 0 ∷ [])
      (ap (λ (l : Layout). l.variables) h.layout_is) ∙
      ap (λ (g : Formula). test (not (is_tidy g.matrix)) 9 (variables F b + first_fault g.matrix) ∷
      test (not (binds g.prefix x)) 10 0 ∷ []) (sheet-formula_in h)

  answered : answer (admission_tests F b x) x ≡ answer read_tests x
  unfolding admission_tests
  answered = answer-++ (check_tests F b) (tidy_and_bound_tests F b x) x h.tests_pass ∙ ap (λ ts. answer ts x) (sym same_tests)

  passing : passes (admission_tests F b x) ≡ passes read_tests
  unfolding admission_tests
  passing =
      passes-++ (check_tests F b) (tidy_and_bound_tests F b x) ∙ ap (λ c. c && passes (tidy_and_bound_tests F b x)) h.tests_pass ∙
      ap passes (sym same_tests)

  size : length (prefix_in s b) ≡ s.variables
  size = length_prefix b (sheet_readable h)

  -- every bound number is within the tables
  few : {i : ℕ} → i ≡ place x (prefix_in s b) → i < s.variables → x ≤ 1024
  unfolding formula_in
  few {i} at l =
      let bound : binds (prefix_in s b) x ≡ true =
      binds-place x (prefix_in s b) ∙ lt-ltb (place x (prefix_in s b)) (length (prefix_in s b)) (omega (arith, size)) in
      let same = ap (λ (g : Formula). g.prefix) (sheet-formula_in h) in
      omega (
        arith,
        (limits s.format).few_variables,
        binds-numbered F (formula F b).prefix x (accepted_within F b h.tests_pass).is_numbered (ap (λ p. binds p x) (sym same) ∙ bound),
      )

  -- 9 not tidy, at the row of the first operator at fault
  pub not_tidy : {fault : ℕ} → fault ≡ cond (is_tidy t) s.nodes (first_fault t) → fault < s.nodes
      → refused 9 (s.variables + fault) ≡ answer (admission_tests F b x) x
  unfolding answer read_tests
  not_tidy {fault} told l =
      let nodes = rows-nodes b (sheet_readable h) in
      rw (answered, tidy_by t nodes told, lt-ltb fault s.nodes l) (ap (λ i. refused 9 (s.variables + i)) (fault_by t nodes told l))

  module _ {fault : ℕ} (told : fault ≡ cond (is_tidy t) s.nodes (first_fault t)) (sound : s.nodes ≤ fault) where
    tidy-here : is_tidy t ≡ true
    tidy-here = tidy_by t (rows-nodes b (sheet_readable h)) told ∙ ap not (le-ltb fault s.nodes sound)

    -- 10 x not in the prefix
    pub not-bound : place x (prefix_in s b) ≡ s.variables → refused 10 0 ≡ answer (admission_tests F b x) x
    unfolding answer read_tests
    not-bound none =
        rw (
          answered,
          tidy-here,
          binds-place x (prefix_in s b),
          le-ltb (place x (prefix_in s b)) (length (prefix_in s b)) (omega (arith, size)),
        )

    pub admitted : {i : ℕ} {ends : List ℕ} → i ≡ place x (prefix_in s b) → i < s.variables → Indexed s b ends → Admitted b x s i ends
    unfolding passes read_tests
    admitted {i} at l e =
        record {
          sheet = h;
          tests_pass =
              rw (
                passing,
                tidy-here,
                binds-place x (prefix_in s b),
                lt-ltb (place x (prefix_in s b)) (length (prefix_in s b)) (omega (arith, size)),
              );
          indexed = e;
          named = record { inside = l; row_is = at; few = few at l };
        }
