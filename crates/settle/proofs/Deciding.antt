-- 12 and 13, in this order, behind tests 1 to 10; and what Settle writes if all pass.
-- Assumes nothing.
use mathlib.Core.Path.{◌≡◌, refl, sym, ap, ◌∙◌}
use mathlib.Core.Bool.{Bool, false, not, ◌&&◌}
use mathlib.Core.List.{List, [], ◌∷◌}
use mathlib.Core.Option as maybe
use mathlib.Core.Option.{get_or}
use Prim.Native.Nat.{ℕ, ◌-◌, ◌≤◌, ◌<◌}
use native.Mathlib.Omega.{arith}
use lib.Dec.{ltb}
use lib.ListN.{length}
use borrow.Author.Tests.{lt-ltb, le-ltb}
use Rattle.std.specs.Prelude.{Option, Some, None}
use Rattle.formula.specs.Tree.{Formula}
use Rattle.formula.specs.Settle.{settling, may_settle, settled}
use Rattle.formula.specs.Solve.{is_some}
use Rattle.sheet.specs.Format.{Bytes, Format, sheet_length, variables, nodes}
use Rattle.sheet.specs.Sheet.{formula, sheet}
use Rattle.sheet.specs.Check.{refused, accepted, Test, test, answer, passes}
use Rattle.sheet.specs.Operations.{padded, settle_tests, settle_call}
use Rattle.sheet.proofs.Tests.{passes-++, answer-++, refused_first}
use Rattle.sheet.proofs.RoundTrip.{length-sheet}
use Rattle.sheet.proofs.Writing.{written, write_refused, write_accepted}
use Rattle.rows.specs.Layouts.{format_in}
use Rattle.rows.specs.Formulas.{prefix_in, formula_in, layout_for}
use Rattle.rows.specs.declared.Layout.{Layout}
use Rattle.rows.proofs.Formulas.{length_prefix}
use Rattle.checking.proofs.CheckedSheets.{sheet_readable, sheet-formula_in}
use Rattle.prefixes.specs.Places.{place, binding_at}
use Rattle.prefixes.proofs.Places.{quantifier_of-place, variable-place}
use Rattle.polarity.specs.Value.{value_of, settling_in}
use Rattle.elimination.specs.Steps.{settled_by}
use Rattle.elimination.specs.Admission.{admission_tests, Admitted}
use Rattle.elimination.specs.declared.settling.Put.{Put}
use Rattle.elimination.proofs.Admitting.{sheet_steppable}
use Rattle.settle.specs.Inner.SettlePlan.{SettlePlanned}

-- Settle's own tests
abbrev own_tests : Format → Bytes → ℕ → ℕ → List Test
own_tests F b x room =
    test (not (is_some (may_settle x (formula F b)))) 12 0 ∷
    test (ltb room (sheet_length F (variables F b - 1) (nodes F b))) 13 0 ∷
    []

-- a refusal of tests 1 to 10
pub refused_before : {n i : ℕ} (F : Format) (b : Bytes) (x room : ℕ) → refused n i ≡ answer (admission_tests F b x) x
    → refused n i ≡ answer (settle_tests F b x room) x
unfolding settle_tests admission_tests
refused_before F b x room h = refused_first (admission_tests F b x) (own_tests F b x room) x x h

module _ {b : Bytes} {x : ℕ} {s : Layout} {i : ℕ} {ends : List ℕ} (a : Admitted b x s i ends) (room : ℕ) where
  abbrev F : Format
  F = format_in s

  answered : answer (settle_tests F b x room) x ≡ answer (own_tests F b x room) x
  unfolding settle_tests admission_tests
  answered = answer-++ (admission_tests F b x) (own_tests F b x room) x a.tests_pass

  passing : passes (settle_tests F b x room) ≡ passes (own_tests F b x room)
  unfolding settle_tests admission_tests
  passing = passes-++ (admission_tests F b x) (own_tests F b x room) ∙ ap (λ c. c && passes (own_tests F b x room)) a.tests_pass

  same : formula_in s b ≡ formula F b
  same = sheet-formula_in a.sheet

  -- what is read at the row is what is asked of x
  value_here : (v : Option Bool) → value_of v ≡ settling_in s b i → may_settle x (formula F b) ≡ value_of v
  unfolding may_settle formula_in
  value_here v h =
      let p = prefix_in s b in
      let inside : place x p < length p
      = omega (arith, a.named.inside, a.named.row_is, length_prefix b (sheet_readable a.sheet)) in
      ap (may_settle x) (sym same) ∙
      rw (quantifier_of-place x p inside)
      (ap (λ (y : ℕ). settling (binding_at p (place x p)).quantifier y (formula_in s b).matrix) (sym (variable-place x p inside)) ∙
      ap (λ (j : ℕ). settling (binding_at p j).quantifier (binding_at p j).variable (formula_in s b).matrix) (sym a.named.row_is)) ∙
      sym h

  raw-length : sheet_length F (variables F b - 1) (nodes F b) ≡ sheet_length F (s.variables - 1) s.nodes
  raw-length = ap (λ (t : Layout). sheet_length F (t.variables - 1) t.nodes) (sym a.sheet.layout_is)

  module _ (v : Option Bool) (h : value_of v ≡ settling_in s b i) where
    -- 12 may not be settled
    pub not_settled : v ≡ None → refused 12 0 ≡ answer (settle_tests F b x room) x
    unfolding answer is_some
    not_settled e = rw (answered, value_here v h, e)

    -- 13 output shorter than the raw sheet
    pub no_room : {c : Bool} → v ≡ Some c → room < sheet_length F (s.variables - 1) s.nodes → refused 13 0 ≡ answer (settle_tests F b x room) x
    unfolding answer is_some
    no_room e l = rw (answered, value_here v h, e, raw-length, lt-ltb room (sheet_length F (s.variables - 1) s.nodes) l)

    pub planned : (c : Bool) → v ≡ Some c → sheet_length F (s.variables - 1) s.nodes ≤ room
        → SettlePlanned b x room s (record { row = i; variable = x; value = c })
    unfolding passes is_some
    planned c e l =
        record {
          tests_pass = rw (passing, value_here v h, e, raw-length, le-ltb room (sheet_length F (s.variables - 1) s.nodes) l);
          puts = record { from = sheet_steppable a.sheet; named = a.named; room = l };
          variable_is = refl;
          value_is = value_here v h ∙ ap value_of e;
          same_formula = same;
        }

-- the call

pub refused_call : {n i : ℕ} (F : Format) (b : Bytes) (x : ℕ) (out : Bytes) → refused n i ≡ answer (settle_tests F b x (length out)) x
    → record { answer = refused n i; output = out } ≡ settle_call F b x out
unfolding settle_call
refused_call F b x out h = written (write_refused (settle_tests F b x (length out)) x _ out h)

module _ {b : Bytes} {x : ℕ} {s : Layout} {p : Put} (out : Bytes) (d : SettlePlanned b x (length out) s p) where
  abbrev G : Format
  G = format_in s

  new : Formula
  new = settled x (get_or (may_settle x (formula G b)) false) (formula G b)

  same_new : settled_by p (formula_in s b) ≡ new
  unfolding new
  same_new =
      rw (d.variable_is, d.same_formula) (ap (λ (o : maybe.Option Bool). settled x (get_or o false) (formula G b)) (sym d.value_is))

  pub settled_call : {t : Layout} {len : ℕ} {new-out : Bytes} → t ≡ layout_for s.format (settled_by p (formula_in s b))
      → len ≡ sheet_length G t.variables t.nodes
      → new-out ≡ padded (length out) (sheet G (settled_by p (formula_in s b)))
      → record { answer = accepted len; output = new-out } ≡ settle_call G b x out
  unfolding settle_call new
  settled_call at l w =
      let call = write_accepted (settle_tests G b x (length out)) (sheet G new) out d.tests_pass in
      let g = settled_by p (formula_in s b) in
      let len_is = l ∙ ap (λ (t : Layout). sheet_length G t.variables t.nodes) at ∙ sym (length-sheet G g) in
      written (
        ap accepted (len_is ∙ ap (λ (f : Formula). length (sheet G f)) same_new) ∙ call.0,
        w ∙ ap (λ (f : Formula). padded (length out) (sheet G f)) same_new ∙ call.1,
      )
