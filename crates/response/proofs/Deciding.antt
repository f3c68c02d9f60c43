-- 11 and 13, in this order, behind tests 1 to 10; and what Response writes if all pass.
-- Assumes nothing.
use mathlib.Core.Path.{◌≡◌, refl, sym, ap, ap₂, ◌∙◌}
use mathlib.Core.Bool.{Bool, true, false, not, ◌||◌, cond}
use mathlib.Core.List.{List, [], ◌∷◌, ◌++◌, append_assoc}
use mathlib.Core.Option.{Option, none, some}
use Prim.Native.Nat.{ℕ, ◌-◌, ◌≤◌, ◌<◌}
use native.Mathlib.Omega.{arith}
use lib.ListN.{length}
use Rattle.std.specs.Prelude.{Ok, Err}
use Rattle.formula.specs.Tree.{Formula, of}
use Rattle.formula.specs.Settle.{settling, may_settle}
use Rattle.formula.specs.Expand.{innermost}
use Rattle.formula.specs.Solve.{is_some}
use Rattle.sheet.specs.Format.{Bytes, Format, sheet_length, fits}
use Rattle.sheet.specs.Sheet.{formula, sheet}
use Rattle.sheet.specs.Check.{refused, accepted, Test, test, answer, passes}
use Rattle.sheet.specs.Operations.{padded, quote_tests}
use Rattle.sheet.specs.Strategy.{response, response_rows, fits_response, response_tests, response_call}
use Rattle.sheet.proofs.Tests.{passes-++, answer-++, refused_first}
use Rattle.sheet.proofs.RoundTrip.{length-sheet}
use Rattle.sheet.proofs.Writing.{written, write_refused, write_accepted}
use Rattle.rows.specs.Layouts.{format_in}
use Rattle.rows.specs.Formulas.{prefix_in, matrix_in, formula_in, layout_for}
use Rattle.rows.specs.declared.Layout.{Layout}
use Rattle.rows.specs.declared.refusals.Refusal.TheVariants.{NoRoom}
use Rattle.rows.proofs.Formulas.{length_prefix}
use Rattle.checking.proofs.CheckedSheets.{sheet_readable, sheet-formula_in}
use Rattle.prefixes.specs.Places.{place, binding_at}
use Rattle.prefixes.proofs.Places.{quantifier_of-place, variable-place}
use Rattle.polarity.specs.Value.{settling_in}
use Rattle.subtrees.specs.declared.relevant.Relevant.{Relevant}
use Rattle.elimination.specs.Admission.{admission_tests, Admitted}
use Rattle.elimination.specs.declared.survey.Survey.{Survey}
use Rattle.elimination.proofs.Admitting.{sheet_steppable}
use Rattle.expand.specs.Inner.ExpandPlan.{ExpandPlanned}
use Rattle.response.specs.Inner.ResponsePlan.{in_room, Passes, ResponsePlans}
use Rattle.response.specs.declared.plan.ResponsePlan.TheVariants.{Constant, Copy}
use Rattle.response.proofs.Selection.{rows_taken, few_taken}
use Rattle.response.proofs.Functions.{unsettled_occurs}

-- Response's own tests
abbrev block_test : Format → Bytes → ℕ → Test
block_test F b x = test (not (is_some (may_settle x (formula F b)) || innermost x (formula F b))) 11 0

abbrev room_test : Format → Bytes → ℕ → ℕ → Test
room_test F b x room = test (not (fits_response (fits F room) x (formula F b))) 13 0

-- a refusal of tests 1 to 10
pub refused_before : {n i : ℕ} (F : Format) (b : Bytes) (x room : ℕ) → refused n i ≡ answer (admission_tests F b x) x
    → refused n i ≡ answer (response_tests F b x room) x
unfolding response_tests admission_tests
refused_before F b x room h = refused_first (admission_tests F b x) (block_test F b x ∷ room_test F b x room ∷ []) x x h

-- does the raw function fit, by its rows
module _ (F : Format) (b : Bytes) (x room : ℕ) {v n : ℕ} (vs : length (formula F b).prefix ≡ v)
    (ns : response_rows x (formula F b).matrix (may_settle x (formula F b)) ≡ n) where
  fits_here : fits_response (fits F room) x (formula F b) ≡ fits F room (v - 1) n
  unfolding fits_response
  fits_here = ap₂ (λ v n. fits F room (v - 1) n) vs ns

-- a variable that tests 1 to 10 admit
module _ {b : Bytes} {x : ℕ} {s : Layout} {i : ℕ} {ends : List ℕ} (a : Admitted b x s i ends) (room : ℕ) where
  abbrev F : Format
  F = format_in s

  same : formula_in s b ≡ formula F b
  same = sheet-formula_in a.sheet

  prefix_is : length (formula F b).prefix ≡ s.variables
  unfolding formula_in
  prefix_is = ap (λ (f : Formula). length f.prefix) (sym same) ∙ length_prefix b (sheet_readable a.sheet)

  -- what is read at the row is what is asked of x
  pub value_here : {o : Option Bool} → o ≡ settling_in s b i → may_settle x (formula_in s b) ≡ o
  unfolding may_settle formula_in
  value_here h =
      let p = prefix_in s b in
      let inside : place x p < length p
      = omega (arith, a.named.inside, a.named.row_is, length_prefix b (sheet_readable a.sheet)) in
      rw (quantifier_of-place x p inside)
      (ap (λ (y : ℕ). settling (binding_at p (place x p)).quantifier y (matrix_in s b)) (sym (variable-place x p inside)) ∙
      ap (λ (j : ℕ). settling (binding_at p j).quantifier (binding_at p j).variable (matrix_in s b)) (sym a.named.row_is)) ∙
      sym h

  pub value_there : {o : Option Bool} → o ≡ settling_in s b i → may_settle x (formula F b) ≡ o
  value_there h = ap (may_settle x) (sym same) ∙ value_here h

  -- it may be settled: 13, or the constant is written
  pub constant_planned : (c : Bool) → may_settle x (formula_in s b) ≡ some c → (table : List ℕ)
      → ResponsePlans s.format b x room table (in_room s 1 room (Constant s (record { row = i; variable = x; value = c })))
  unfolding response_tests admission_tests answer passes is_some response_rows
  constant_planned c e table = by (fits F room (s.variables - 1) 1) refl
    where
      there : may_settle x (formula F b) ≡ some c
      there = ap (may_settle x) (sym same) ∙ e

      fit : fits_response (fits F room) x (formula F b) ≡ fits F room (s.variables - 1) 1
      fit = fits_here F b x room prefix_is (ap (response_rows x (formula F b).matrix) there)

      by : (m : Bool) → fits F room (s.variables - 1) 1 ≡ m
          → ResponsePlans s.format b x room table (cond m (Ok (Constant s (record { row = i; variable = x; value = c }))) (Err NoRoom))
      by true h = (
        refl,
        refl,
        record {
          tests_pass =
              passes-++ (admission_tests F b x) (block_test F b x ∷ room_test F b x room ∷ []) ∙ rw (a.tests_pass, there, fit, h);
          same_formula = same;
        },
        record { from = sheet_steppable a.sheet; named = a.named; value_is = e; has_room = h },
      )
      by false h =
          sym (answer-++ (admission_tests F b x) (block_test F b x ∷ room_test F b x room ∷ []) x a.tests_pass ∙ rw (there, fit, h))

-- it may not be settled: the tests are those of a quote, and 13
module _ (F : Format) (b : Bytes) (x room : ℕ) (e : may_settle x (formula F b) ≡ none) where
  quote_first : response_tests F b x room ≡ quote_tests F b x ++ (room_test F b x room ∷ [])
  unfolding response_tests quote_tests admission_tests is_some
  quote_first =
      ap (λ (o : Option Bool). admission_tests F b x ++ (test (not (is_some o || innermost x (formula F b))) 11 0 ∷ room_test F b x room ∷ [])) e ∙
      sym (append_assoc (admission_tests F b x) (test (not (innermost x (formula F b))) 11 0 ∷ []) (room_test F b x room ∷ []))

  pub refused_quote : {n i : ℕ} → refused n i ≡ answer (quote_tests F b x) x → refused n i ≡ answer (response_tests F b x room) x
  refused_quote h =
      refused_first (quote_tests F b x) (room_test F b x room ∷ []) x x h ∙ ap (λ (ts : List Test). answer ts x) (sym quote_first)

module _ {b : Bytes} {x : ℕ} {table : List ℕ} {s : Layout} {w : Survey} (d : ExpandPlanned b x table s w) (room : ℕ)
    (e : may_settle x (formula (format_in s) b) ≡ none) where
  abbrev G : Format
  G = format_in s

  unsettled : may_settle x (formula_in s b) ≡ none
  unsettled = ap (may_settle x) d.same_formula ∙ e

  present : w.to.occurs ≡ true
  unfolding formula_in
  present = d.prepared.occurs_is ∙ unsettled_occurs x (formula_in s b) unsettled

  pub planned_few : w.to.relevant.rows ≤ 8192
  planned_few = omega (arith, few_taken d.from.readable (of x), ap (λ (p : Relevant). p.rows) (d.prepared.found present).part_is)

  rows_are : response_rows x (formula G b).matrix (may_settle x (formula G b)) ≡ w.to.relevant.rows
  unfolding response_rows formula_in
  rows_are =
      ap (response_rows x (formula G b).matrix) e ∙ ap (λ (f : Formula). response_rows x f.matrix none) (sym d.same_formula) ∙
      sym (rows_taken (of x) 0 (matrix_in s b)) ∙ ap (λ (p : Relevant). p.rows) (sym (d.prepared.found present).part_is)

  fit : fits_response (fits G room) x (formula G b) ≡ fits G room (s.variables - 1) w.to.relevant.rows
  unfolding formula_in
  fit =
      fits_here G b x room (ap (λ (f : Formula). length f.prefix) (sym d.same_formula) ∙ length_prefix b d.from.readable) rows_are

  pub copy_planned : ResponsePlans s.format b x room table (in_room s w.to.relevant.rows room (Copy s w))
  unfolding answer passes
  copy_planned = by (fits G room (s.variables - 1) w.to.relevant.rows) refl
    where
      by : (m : Bool) → fits G room (s.variables - 1) w.to.relevant.rows ≡ m
          → ResponsePlans s.format b x room table (cond m (Ok (Copy s w)) (Err NoRoom))
      by true h = (
        refl,
        record {
          tests_pass =
              ap passes (quote_first G b x room e) ∙ passes-++ (quote_tests G b x) (room_test G b x room ∷ []) ∙
              rw (d.tests_pass, fit, h);
          same_formula = d.same_formula;
        },
        record { from = d.from; named = d.named; prepared = d.prepared; unsettled = unsettled; has_room = h },
      )
      by false h =
          sym
          (ap (λ (ts : List Test). answer ts x) (quote_first G b x room e) ∙
          answer-++ (quote_tests G b x) (room_test G b x room ∷ []) x d.tests_pass ∙ rw (fit, h))

-- the call

pub refused_call : {n i : ℕ} (F : Format) (b : Bytes) (x : ℕ) (out : Bytes) → refused n i ≡ answer (response_tests F b x (length out)) x
    → record { answer = refused n i; output = out } ≡ response_call F b x out
unfolding response_call
refused_call F b x out h = written (write_refused (response_tests F b x (length out)) x _ out h)

module _ {b : Bytes} {x : ℕ} {s : Layout} (out : Bytes) (d : Passes b x (length out) s) where
  abbrev H : Format
  H = format_in s

  pub responded_call : {t : Layout} {len : ℕ} {new : Bytes} → t ≡ layout_for s.format (response x (formula_in s b))
      → len ≡ sheet_length H t.variables t.nodes → new ≡ padded (length out) (sheet H (response x (formula_in s b)))
      → record { answer = accepted len; output = new } ≡ response_call H b x out
  unfolding response_call
  responded_call at l h =
      let call = write_accepted (response_tests H b x (length out)) (sheet H (response x (formula H b))) out d.tests_pass in
      let long = l ∙ ap (λ (t : Layout). sheet_length H t.variables t.nodes) at ∙ sym (length-sheet H (response x (formula_in s b))) in
      written (
        ap accepted (long ∙ ap (λ (f : Formula). length (sheet H (response x f))) d.same_formula) ∙ call.0,
        h ∙ ap (λ (f : Formula). padded (length out) (sheet H (response x f))) d.same_formula ∙ call.1,
      )
