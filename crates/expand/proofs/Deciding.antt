-- 11 behind tests 1 to 10, and all that the writing needs; then 13, and what Expand writes if all pass.
-- Assumes nothing.
use mathlib.Core.Path.{◌≡◌, refl, sym, ap, ap₂, ◌∙◌, subst, subst₂}
use mathlib.Core.Bool.{Bool, true, false, not}
use mathlib.Core.List.{List, [], ◌∷◌}
use Prim.Native.Nat.{ℕ, ◌-◌, ◌≤◌, ◌<◌}
use native.Mathlib.Omega.{arith}
use lib.Dec.{ltb}
use lib.ListN.{length}
use Rattle.formula.specs.Tree.{Prefix, Formula, of}
use Rattle.formula.specs.Expand.{innermost, raw_rows, expanded}
use Rattle.formula.specs.Solve.{fits_raw}
use Rattle.sheet.specs.Format.{Bytes, Format, sheet_length, fits}
use Rattle.sheet.specs.Sheet.{formula, sheet}
use Rattle.sheet.specs.Check.{refused, accepted, Test, test, answer, passes}
use Rattle.sheet.specs.Operations.{padded, quote_tests, raw_count, quote_call, raw_room_test, expand_tests, expand_call, execute_tests, execute_call}
use Rattle.sheet.proofs.Tests.{passes-++, answer-++, answer-passes, refused_first, refused_alike}
use Rattle.sheet.proofs.RoundTrip.{length-sheet}
use Rattle.sheet.proofs.Quote.{execute_within, execute_above}
use Rattle.sheet.proofs.Writing.{written, write_refused, write_accepted}
use Rattle.rows.specs.Layouts.{format_in}
use Rattle.rows.specs.Formulas.{prefix_in, matrix_in, formula_in, layout_for}
use Rattle.rows.specs.declared.Layout.{Layout}
use Rattle.rows.proofs.Formulas.{length_prefix}
use Rattle.checking.proofs.CheckedSheets.{sheet_readable, sheet-formula_in}
use Rattle.prefixes.specs.Places.{place, binding_at, binding_in}
use Rattle.prefixes.proofs.Places.{variable-place}
use Rattle.occurrences.specs.Occurrences.{Occurrences}
use Rattle.choice.specs.Expanding.{priced_in}
use Rattle.relevance.specs.declared.variable.Candidate.{Candidate}
use Rattle.elimination.specs.Steps.{Named}
use Rattle.elimination.specs.Admission.{admission_tests, Admitted}
use Rattle.elimination.specs.Expanding.{Priced, Prepared, Expands}
use Rattle.elimination.specs.declared.survey.Survey.{Survey}
use Rattle.elimination.proofs.Admitting.{sheet_steppable}
use Rattle.expand.specs.Inner.ExpandPlan.{ExpandPlanned}

-- the tests

abbrev innermost-test : Format → Bytes → ℕ → Test
innermost-test F b x = test (not (innermost x (formula F b))) 11 0

-- a refusal of tests 1 to 10, and of 1 to 11
pub refused_before : {n i : ℕ} (F : Format) (b : Bytes) (x : ℕ) → refused n i ≡ answer (admission_tests F b x) x
    → refused n i ≡ answer (quote_tests F b x) x
unfolding quote_tests admission_tests
refused_before F b x h = refused_first (admission_tests F b x) (innermost-test F b x ∷ []) x x h

pub refused_quote : {n i : ℕ} (F : Format) (b : Bytes) (x len : ℕ) → refused n i ≡ answer (quote_tests F b x) x
    → refused n i ≡ answer (expand_tests F b x len) x
unfolding expand_tests
refused_quote F b x len h = refused_first (quote_tests F b x) (raw_room_test F b x len ∷ []) x x h

pub refused_ceiling : {n i : ℕ} (F : Format) (b : Bytes) (x ceiling len : ℕ) → refused n i ≡ answer (quote_tests F b x) x
    → refused n i ≡ answer (execute_tests F b x ceiling len) x
unfolding execute_tests
refused_ceiling F b x ceiling len h =
    refused_first (quote_tests F b x) (test (ltb ceiling (raw_count F b x)) 19 0 ∷ raw_room_test F b x len ∷ []) x x h

-- a variable that tests 1 to 10 admit
module _ {b : Bytes} {x : ℕ} {s : Layout} {i : ℕ} {ends : List ℕ} (a : Admitted b x s i ends) where
  abbrev F : Format
  F = format_in s

  abbrev p : Prefix
  p = prefix_in s b

  inside : place x p < length p
  inside = omega (arith, a.named.inside, a.named.row_is, length_prefix b (sheet_readable a.sheet))

  innermost_here : {c : Bool} → innermost x (formula_in s b) ≡ c → innermost x (formula F b) ≡ c
  innermost_here e = ap (innermost x) (sym (sheet-formula_in a.sheet)) ∙ e

  -- 11 not in the innermost block
  pub not-innermost : innermost x (formula_in s b) ≡ false → refused 11 0 ≡ answer (quote_tests F b x) x
  unfolding quote_tests admission_tests answer
  not-innermost e =
      rw (
        answer-++ (admission_tests F b x) (innermost-test F b x ∷ []) x a.tests_pass,
        innermost_here e,
      )

  quoted : innermost x (formula_in s b) ≡ true → passes (quote_tests F b x) ≡ true
  unfolding quote_tests admission_tests passes
  quoted e =
      rw (
        passes-++ (admission_tests F b x) (innermost-test F b x ∷ []),
        a.tests_pass,
        innermost_here e,
      )

  row-variable : (binding_in s b i).variable ≡ x
  row-variable = ap (λ j. (binding_at p j).variable) a.named.row_is ∙ variable-place x p inside

  module _ {c : Candidate} (is : c ≡ priced_in s b i) where
    pub priced : {ranges next : List ℕ} → Occurrences s b ranges next → Priced s b ends ranges next c
    priced {ranges} {next} found =
        subst (Priced s b ends ranges next) (sym is)
        (record {
          indexed = a.indexed;
          occurrences = found;
          named = subst (λ y. Named s b y i) (sym row-variable) a.named;
          part_is = refl;
          raw_is = refl;
        })

    -- the count that a quote answers with
    pub counted : innermost x (formula_in s b) ≡ true → accepted c.raw ≡ quote_call F b x
    unfolding quote_call formula_in
    counted e =
        ap accepted
        (ap (λ (q : Candidate). q.raw) is ∙ ap (λ y. raw_rows (of y) (matrix_in s b)) row-variable ∙
        ap (λ (f : Formula). raw_rows (of x) f.matrix) (sheet-formula_in a.sheet)) ∙
        sym (answer-passes (quote_tests F b x) (raw_count F b x) (quoted e))

    pub planned : {table : List ℕ} {w : Survey} → innermost x (formula_in s b) ≡ true
        → Prepared s b c.variable c.row table w → ExpandPlanned b x table s w
    planned {table} {w} e r =
        let variable : c.variable ≡ x = ap (λ (q : Candidate). q.variable) is ∙ row-variable in
        let row : w.to.row ≡ i = r.row_is ∙ ap (λ (q : Candidate). q.row) is in
        record {
          tests_pass = quoted e;
          from = sheet_steppable a.sheet;
          named = subst (Named s b x) (sym row) a.named;
          prepared = subst₂ (λ y j. Prepared s b y j table w) variable (sym r.row_is) r;
          same_formula = sheet-formula_in a.sheet;
        }

-- the call

pub refused_quote_call : {n i : ℕ} (F : Format) (b : Bytes) (x : ℕ) → refused n i ≡ answer (quote_tests F b x) x → refused n i ≡ quote_call F b x
unfolding quote_call
refused_quote_call F b x h = refused_alike (quote_tests F b x) x (raw_count F b x) h

pub refused_execution : {n i : ℕ} (F : Format) (b : Bytes) (x ceiling : ℕ) (out : Bytes) → refused n i ≡ answer (quote_tests F b x) x
    → record { answer = refused n i; output = out } ≡ execute_call F b x ceiling out
unfolding execute_call
refused_execution F b x ceiling out h =
    written (write_refused (execute_tests F b x ceiling (length out)) x _ out (refused_ceiling F b x ceiling (length out) h))

pub refused_call : {n i : ℕ} (F : Format) (b : Bytes) (x : ℕ) (out : Bytes) → refused n i ≡ answer (expand_tests F b x (length out)) x
    → record { answer = refused n i; output = out } ≡ expand_call F b x out
unfolding expand_call
refused_call F b x out h = written (write_refused (expand_tests F b x (length out)) x _ out h)

module _ {b : Bytes} {y : ℕ} {table : List ℕ} {s : Layout} {w : Survey} (d : ExpandPlanned b y table s w) where
  abbrev G : Format
  G = format_in s

  fits_here : (len : ℕ) → fits_raw (fits G len) y (formula G b) ≡ fits G len (s.variables - 1) w.to.layout.nodes
  unfolding fits_raw formula_in
  fits_here len =
      ap (fits_raw (fits G len) y) (sym d.same_formula) ∙
      ap₂ (λ v n. fits G len (v - 1) n) (length_prefix b d.from.readable) (sym (ap (λ (l : Layout). l.nodes) d.prepared.layout_is))

  -- 19 above the ceiling; within it Execute is Expand
  raw_here : w.to.layout.nodes ≡ raw_count G b y
  unfolding formula_in
  raw_here =
      ap (λ (l : Layout). l.nodes) d.prepared.layout_is ∙ ap (λ (f : Formula). raw_rows (of y) f.matrix) d.same_formula

  pub above_ceiling : (ceiling : ℕ) (out : Bytes) → ceiling < w.to.layout.nodes
      → record { answer = refused 19 0; output = out } ≡ execute_call G b y ceiling out
  above_ceiling ceiling out h = written (execute_above G b y ceiling out d.tests_pass (omega (arith, raw_here)))

  pub within_ceiling : (ceiling : ℕ) (out : Bytes) → w.to.layout.nodes ≤ ceiling → execute_call G b y ceiling out ≡ expand_call G b y out
  within_ceiling ceiling out h = execute_within G b y ceiling out (omega (arith, raw_here))

  module _ (out : Bytes) {c : Bool} (is : c ≡ fits G (length out) (s.variables - 1) w.to.layout.nodes) where
    -- 13 the raw sheet doesn't fit
    pub no_room : c ≡ false → record { answer = refused 13 0; output = out } ≡ expand_call G b y out
    unfolding answer expand_tests
    no_room e =
        refused_call G b y out
        (rw (
          answer-++ (quote_tests G b y) (raw_room_test G b y (length out) ∷ []) y d.tests_pass,
          fits_here (length out),
          ← is,
          e,
        ))

    pub expands : c ≡ true → Expands s b y table w (length out)
    expands e = record { from = d.from; named = d.named; prepared = d.prepared; has_room = sym is ∙ e }

    tests_pass : c ≡ true → passes (expand_tests G b y (length out)) ≡ true
    unfolding passes expand_tests
    tests_pass e =
        rw (
          passes-++ (quote_tests G b y) (raw_room_test G b y (length out) ∷ []),
          d.tests_pass,
          fits_here (length out),
          ← is,
          e,
        )

    pub expanded-call : c ≡ true → {t : Layout} {len : ℕ} {new : Bytes} → t ≡ layout_for s.format (expanded y (formula_in s b))
        → len ≡ sheet_length G t.variables t.nodes → new ≡ padded (length out) (sheet G (expanded y (formula_in s b)))
        → record { answer = accepted len; output = new } ≡ expand_call G b y out
    unfolding expand_call
    expanded-call e at l h =
        let call = write_accepted (expand_tests G b y (length out)) (sheet G (expanded y (formula G b))) out (tests_pass e) in
        let same = d.same_formula in
        let long = l ∙ ap (λ (t : Layout). sheet_length G t.variables t.nodes) at ∙ sym (length-sheet G (expanded y (formula_in s b))) in
        written (
          ap accepted (long ∙ ap (λ (f : Formula). length (sheet G (expanded y f))) same) ∙ call.0,
          h ∙ ap (λ (f : Formula). padded (length out) (sheet G (expanded y f))) same ∙ call.1,
        )
