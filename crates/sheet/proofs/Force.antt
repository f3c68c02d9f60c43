-- Force on bytes: an answer says exactly which values win, with no value given it is the sheet's verdict, and its buffers are zeros;
-- refused, no byte changes.
-- Assumes nothing.
use mathlib.Core.Path.{◌≡◌, refl, sym, ◌∙◌, ap, ap₂, subst}
use mathlib.Core.Bool.{Bool, true, false, not, cond}
use mathlib.Core.List.{List, [], ◌∷◌}
use Prim.Native.Nat.{ℕ, zero, suc, ◌<◌, ◌≤◌}
use native.Mathlib.Omega.{arith}
use lib.Dec.{ltb}
use lib.ListN.{length, drop, replicate, length-drop, length-map}
use borrow.Author.Tests.{not-false, ltb-true, lt-ltb, le-ltb}
use Rattle.formula.specs.Tree.{exists, for_all, Prefix, Formula}
use Rattle.formula.specs.Truth.{truth}
use Rattle.formula.specs.Force.{given_by, given, owner, turn_after, Forced, allows_some, Told, ForceRight}
use Rattle.formula.proofs.Force.{prefix_given, rows-given, distinct-given, closed-given, forced_right, neither_none, neither_allows, exists-verdict, for_all-verdict}
use Rattle.sheet.specs.Format.{Bytes, Format, fits, variables}
use Rattle.sheet.specs.Sheet.{formula}
use Rattle.sheet.specs.Check.{Answer, refused, accepted, answer, passes, check_tests}
use Rattle.sheet.specs.Limits.{numbered, Within}
use Rattle.sheet.specs.Trace.{room}
use Rattle.sheet.specs.Force.{are_values, value_of, values_of, force_tests, Panel, panel, buffer_after, force_call, Ties}
use Rattle.sheet.proofs.Tests.{passed-∷, passed-++, answer-++, accepted_passes}
use Rattle.sheet.proofs.Limits.{numbered-∷}
use Rattle.sheet.proofs.Accepted.{accepted_within, accepted_variables}

-- what the values leave is within the limits

numbered-drop : (F : Format) (n : ℕ) (p : Prefix) → numbered F p ≡ true → numbered F (drop n p) ≡ true
numbered-drop F zero p h = h
numbered-drop F (suc n) [] h = h
numbered-drop F (suc n) (z ∷ p) h = numbered-drop F n p (numbered-∷ F z p h).1

pub within-given : (F : Format) (bs : List Bool) (f : Formula) → Within F f → Within F (given bs f)
within-given F bs f w =
    let p = prefix_given bs f.prefix f.matrix in
    record {
      few_variables = omega (arith, ap length p, length-drop (length bs) f.prefix, w.few_variables);
      few_nodes = omega (arith, rows-given bs f.prefix f.matrix, w.few_nodes);
      is_numbered = ap (numbered F) p ∙ numbered-drop F (length bs) f.prefix w.is_numbered;
      is_distinct = distinct-given bs f.prefix f.matrix w.is_distinct;
      is_closed = closed-given bs f.prefix f.matrix w.is_closed;
    }

-- after 8: 21, then 22, then 13

module _ (F : Format) (b vs : Bytes) (len : ℕ) (checked : passes (check_tests F b) ≡ true) where
  abbrev answered : Answer Panel
  answered = answer (force_tests F b vs len) (panel F b vs len)

  abbrev by_tests : Bool → Bool → Bool → Answer Panel
  by_tests values few short =
      cond (not values) (refused 21 0) (cond (not few) (refused 22 0) (cond short (refused 13 0) (accepted (panel F b vs len))))

  tested : {values few short : Bool} → are_values vs ≡ values → ltb (length vs) (variables F b) ≡ few → ltb len (length b) ≡ short
      → answered ≡ by_tests values few short
  unfolding force_tests answer
  tested {values} e₁ e₂ e₃ =
      answer-++ (check_tests F b) _ (panel F b vs len) checked ∙
      ap (λ (v : Bool). by_tests v (ltb (length vs) (variables F b)) (ltb len (length b))) e₁ ∙
      ap₂ (λ (f s : Bool). by_tests values f s) e₂ e₃

  pub refused_21 : are_values vs ≡ false → answered ≡ refused 21 0
  refused_21 e = tested e refl refl

  module _ (e : are_values vs ≡ true) where
    pub refused-22 : variables F b ≤ length vs → answered ≡ refused 22 0
    refused-22 l = tested e (le-ltb (length vs) (variables F b) l) refl

    module _ (few : length vs < variables F b) where
      pub refused-13 : len < length b → answered ≡ refused 13 0
      refused-13 l = tested e (lt-ltb (length vs) (variables F b) few) (lt-ltb len (length b) l)

      pub none-fails : length b ≤ len → passes (force_tests F b vs len) ≡ true
      none-fails l = (accepted_passes (force_tests F b vs len) (panel F b vs len) (panel F b vs len) all).0
        where
          all : answered ≡ accepted (panel F b vs len)
          all = tested e (lt-ltb (length vs) (variables F b) few) (le-ltb len (length b) l)

module _ (F : Format) (b vs first second : Bytes) where
  -- refusing alters no byte, and an answer leaves zeros
  pub force_refused : (n i : ℕ) → (force_call F b vs first second).answer ≡ refused n i
      → ((force_call F b vs first second).first ≡ first) × ((force_call F b vs first second).second ≡ second)
  unfolding force_call buffer_after
  force_refused n i h = (ap (λ (a : Answer Panel). buffer_after a first) h, ap (λ (a : Answer Panel). buffer_after a second) h)

  pub force_cleared : (a : Panel) → (force_call F b vs first second).answer ≡ accepted a
      → ((force_call F b vs first second).first ≡ replicate (length first) 0) ×
      ((force_call F b vs first second).second ≡ replicate (length second) 0)
  unfolding force_call buffer_after
  force_cleared a h = (ap (λ (x : Answer Panel). buffer_after x first) h, ap (λ (x : Answer Panel). buffer_after x second) h)

  -- The turn is that of the first row without a value; where no run stops, the outcome names exactly the values that win.
  pub force_right : (a : Panel) → (force_call F b vs first second).answer ≡ accepted a
      → (a.turn ≡ turn_after (values_of vs) (formula F b)) × (Told a.outcome → ForceRight (values_of vs) (formula F b) a.outcome)
  unfolding force_call force_tests panel
  force_right a h =
      let passed = accepted_passes (force_tests F b vs (room first second)) (panel F b vs (room first second)) a h in
      let checked = passed-++ (check_tests F b) _ passed.0 in
      let fewer = (passed-∷ _ _ (passed-∷ _ _ checked.1).1).0 in
      let w = accepted_within F b checked.0 in
      let short : length (values_of vs) < length (formula F b).prefix
      = omega (
        arith,
        length-map vs value_of,
        ltb-true (length vs) (variables F b) (not-false (ltb (length vs) (variables F b)) fewer),
        accepted_variables F b checked.0,
      ) in
      let same : panel F b vs (room first second) ≡ a = passed.1 in (
        sym (ap (λ (x : Panel). x.turn) same),
        subst (λ (x : Panel). Told x.outcome → ForceRight (values_of vs) (formula F b) x.outcome) same
            (λ told. forced_right (fits F (room first second)) (values_of vs) (formula F b) w.is_distinct w.is_closed short told),
      )

ties : (o : Forced) (wins : Bool) → Told o → allows_some o ≡ wins → Ties o wins
ties o wins told e =
    record {
      some_wins = e;
      on_neither = λ n. sym e ∙ neither_allows o n;
      neither_on = λ h. neither_none o told (e ∙ h);
    }

-- With no value given the panel says what the verdict says: 0, 1 or both exactly if the sheet is true where exists owns the first row,
-- and exactly if it is false where for all does.
module _ (F : Format) (b first second : Bytes) (a : Panel) (h : (force_call F b [] first second).answer ≡ accepted a)
    (told : Told a.outcome) where
  turn_is : a.turn ≡ owner (formula F b).prefix
  unfolding given_by
  turn_is = (force_right F b [] first second a h).0

  right : ForceRight [] (formula F b) a.outcome
  right = (force_right F b [] first second a h).1 told

  pub exists_ties : a.turn ≡ exists → Ties a.outcome (truth (formula F b))
  exists_ties e = ties a.outcome _ told (exists-verdict (formula F b) a.outcome told right (sym turn_is ∙ e))

  pub for_all_ties : a.turn ≡ for_all → Ties a.outcome (not (truth (formula F b)))
  for_all_ties e = ties a.outcome _ told (for_all-verdict (formula F b) a.outcome told right (sym turn_is ∙ e))
