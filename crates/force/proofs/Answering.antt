-- What Force answers and leaves, from its tests and its two runs.
-- Assumes nothing.
use mathlib.Core.Path.{◌≡◌, refl, sym, ap, ap₂, ◌∙◌}
use mathlib.Core.Bool.{Bool, true, false, not, beq, false≢true}
use Prim.Native.Nat.{ℕ, ◌≤◌, ◌<◌}
use native.Mathlib.Omega.{arith}
use lib.ListN.{length, drop, replicate, length-map}
use lib.Seq.{drop-cons}
use borrow.Author.Tests.{not-true, not-false}
use Rattle.formula.specs.Tree.{Quantifier, and, or, same_op, exists, Formula}
use Rattle.formula.specs.Solve.{End, ended, stopped}
use Rattle.formula.specs.Force.{owner, turn_after, wanted, Forced, stopped_at, which, forced_by, forced}
use Rattle.formula.proofs.Force.{prefix_given, first_stop, second_stop}
use Rattle.sheet.specs.Format.{Bytes, Format, fits, variables}
use Rattle.sheet.specs.Sheet.{formula}
use Rattle.sheet.specs.Check.{Answer, refused, accepted, answer, check_tests, check}
use Rattle.sheet.specs.Trace.{room}
use Rattle.sheet.specs.Force.{are_values, value_of, values_of, force_tests, Panel, panel, Forcing, buffer_after, force_call}
use Rattle.sheet.proofs.Tests.{answer-passes, refused_first}
use Rattle.sheet.proofs.Force.{refused_21, refused-22, refused-13, none-fails}
use Rattle.rows.specs.Layouts.{format_in}
use Rattle.rows.specs.Formulas.{prefix_in, formula_in}
use Rattle.rows.specs.declared.Layout.{Layout}
use Rattle.rows.proofs.Formulas.{length_prefix}
use Rattle.checking.specs.Sheets.{Sheet}
use Rattle.checking.proofs.CheckedSheets.{sheet_right, sheet-formula_in}
use Rattle.prefixes.specs.Places.{binding_at, binding_in}
use Rattle.force.specs.Inner.Judging.{Judgeable, end_in, outcome_in}
use Rattle.force.proofs.Judging.{readable}

pub is_exists : (q : Quantifier) → same_op exists q ≡ true → exists ≡ q
is_exists or h = refl
is_exists and h = absurd (false≢true h)

wanted_is : (q : Quantifier) → same_op exists q ≡ wanted q
wanted_is or = refl
wanted_is and = refl

module _ {s : Layout} {b vs : Bytes} {len : ℕ} (j : Judgeable s b vs len) where
  abbrev F : Format
  F = format_in s

  -- the owner of the first row without a value
  pub turn_is : (binding_in s b (length vs)).quantifier ≡ turn_after (values_of vs) (formula F b)
  unfolding owner binding_at formula_in
  turn_is =
      sym
      (ap (λ (f : Formula). turn_after (values_of vs) f) (sym (sheet-formula_in j.checked)) ∙
      ap owner (prefix_given (values_of vs) (prefix_in s b) _) ∙
      ap (λ (n : ℕ). owner (drop n (prefix_in s b))) (length-map vs value_of) ∙
      ap owner (drop-cons (prefix_in s b) (length vs) _ (omega (arith, length_prefix b (readable j), j.fewer))))

  pub stopped_0 : {x : ℕ} → stopped x ≡ end_in s b vs false len → stopped_at x ≡ outcome_in s b vs len
  stopped_0 e = sym (first_stop (fits F len) (values_of vs) (formula F b) (sym e))

  pub stopped_1 : {x : ℕ} {v : Bool} → ended v ≡ end_in s b vs false len → stopped x ≡ end_in s b vs true len
      → stopped_at x ≡ outcome_in s b vs len
  stopped_1 e₀ e₁ = sym (second_stop (fits F len) (values_of vs) (formula F b) (sym e₀) (sym e₁))

  pub both_ended : {existential : Bool} → existential ≡ same_op exists (binding_in s b (length vs)).quantifier
      → {v₀ v₁ w₀ w₁ : Bool} → ended v₀ ≡ end_in s b vs false len → ended v₁ ≡ end_in s b vs true len
      → w₀ ≡ beq existential v₀ → w₁ ≡ beq existential v₁ → which w₀ w₁ ≡ outcome_in s b vs len
  unfolding forced forced_by
  both_ended {existential} is {v₀} {v₁} e₀ e₁ k₀ k₁ =
      ap₂ which k₀ k₁ ∙ ap (λ (w : Bool). forced_by w (ended v₀) (ended v₁)) wants ∙ ap₂ (λ (n m : End). forced_by wish n m) e₀ e₁
    where
      wish : Bool
      wish = wanted (turn_after (values_of vs) (formula F b))

      wants : existential ≡ wish
      wants = is ∙ wanted_is (binding_in s b (length vs)).quantifier ∙ ap wanted turn_is

-- what a call answers and leaves

module _ (F : Format) (b vs first second : Bytes) where
  abbrev whole : Answer Panel
  whole = answer (force_tests F b vs (room first second)) (panel F b vs (room first second))

  abbrev after : Answer Panel → Forcing
  after a = record { answer = a; first = buffer_after a first; second = buffer_after a second }

  refused_call : {k p : ℕ} → refused k p ≡ whole
      → record { answer = refused k p; first = first; second = second } ≡ force_call F b vs first second
  unfolding force_call buffer_after
  refused_call e = ap after e

  -- 1 to 8
  pub unchecked_call : {k p : ℕ} → refused k p ≡ check F b
      → record { answer = refused k p; first = first; second = second } ≡ force_call F b vs first second
  unfolding check force_tests
  unchecked_call e = refused_call (refused_first (check_tests F b) _ _ _ e)

module _ {b : Bytes} {s : Layout} (h : Sheet s.format b s) (vs first second : Bytes) {ok : Bool} (e : ok ≡ are_values vs) where
  abbrev G : Format
  G = format_in s

  abbrev most : ℕ
  most = room first second

  variables_are : s.variables ≡ variables G b
  variables_are = (sheet_right h).variables_are

  -- 21 a value isn't 0 or 1
  pub bad_call : not ok ≡ true → record { answer = refused 21 0; first = first; second = second } ≡ force_call G b vs first second
  bad_call n = refused_call G b vs first second (sym (refused_21 G b vs most h.tests_pass (sym e ∙ not-true ok n)))

  module _ (n : not ok ≡ false) where
    good : are_values vs ≡ true
    good = sym e ∙ not-false ok n

    -- 22 the values are as many as V or more
    pub many_call : s.variables ≤ length vs
        → record { answer = refused 22 0; first = first; second = second } ≡ force_call G b vs first second
    many_call l = refused_call G b vs first second (sym (refused-22 G b vs most h.tests_pass good (omega (arith, variables_are))))

    module _ (fewer : length vs < s.variables) where
      few : length vs < variables G b
      few = omega (arith, variables_are)

      -- 13 a work buffer shorter than the sheet
      pub short_call : most < length b
          → record { answer = refused 13 0; first = first; second = second } ≡ force_call G b vs first second
      short_call l = refused_call G b vs first second (sym (refused-13 G b vs most h.tests_pass good few l))

      module _ (l : length b ≤ most) where
        judgeable : Judgeable s b vs most
        judgeable = record { checked = h; fewer = fewer; has_room = l }

        pub answered-call : {q : Quantifier} {o : Forced} {first' second' : Bytes} → q ≡ (binding_in s b (length vs)).quantifier
            → o ≡ outcome_in s b vs most → first' ≡ replicate (length first) 0 → second' ≡ replicate (length second) 0
            → record { answer = accepted (record { turn = q; outcome = o }); first = first'; second = second' } ≡ force_call G b vs first second
        unfolding force_call buffer_after panel
        answered-call {q} {o} t k zeros zeros' =
            ap₂ (λ (x y : Bytes). record { answer = accepted (record { turn = q; outcome = o }); first = x; second = y }) zeros zeros' ∙
            ap (after G b vs first second)
            (ap₂ (λ (q : Quantifier) (o : Forced). accepted (record { turn = q; outcome = o })) (t ∙ turn_is judgeable) k ∙
            sym (answer-passes (force_tests G b vs most) (panel G b vs most) (none-fails G b vs most h.tests_pass good few l)))
