-- Compare's answer and final buffers from what its parts answer.
-- Assumes nothing.
use mathlib.Core.Path.{◌≡◌, refl, sym, ap, ap₂, ◌∙◌}
use mathlib.Core.Bool.{true}
use mathlib.Core.List.{◌++◌}
use Prim.Native.Nat.{ℕ, ◌-◌, ◌≤◌, ◌<◌}
use native.Mathlib.Omega.{arith}
use lib.ListN.{length, take, replicate}
use borrow.Author.Tests.{lt-ltb, le-ltb}
use Rattle.formula.specs.Tree.{Formula}
use Rattle.formula.specs.Order.{Ordering, compare_formulas}
use Rattle.sheet.specs.Format as sheet
use Rattle.sheet.specs.Format.{Bytes}
use Rattle.sheet.specs.Check.{answer, passes, check, check_tests}
use Rattle.sheet.specs.Order.{is_refused, is_ordered, for_sheet, room, compare_answer, comparing, compare_call}
use Rattle.sheet.proofs.Tests.{answer-passes}
use Rattle.sheet.proofs.Order.{room_enough}
use Rattle.rows.specs.Formats.{format_of}
use Rattle.rows.specs.Formulas.{formula_in}
use Rattle.rows.specs.declared.Format.{Format}
use Rattle.rows.specs.declared.Layout.{Layout}
use Rattle.rows.specs.declared.refusals.Refusal.{Refusal}
use Rattle.checking.specs.Answers as checking
use Rattle.checking.specs.Sheets.{Sheet}
use Rattle.checking.proofs.CheckedSheets.{accepted_as, sheet_checked, sheet-formula_in}
use Rattle.std.specs.Prelude.{Result, Ok, Err}
use Rattle.std.specs.Result.{MatchResult, IfOk}
use Rattle.std.proofs.lemmas.Result.{IfOk-at_ok}
use Rattle.std.specs.declared.cmp.Ordering as std
use Rattle.tree_order.specs.Rows.{ordering}
use Rattle.sort_compare.specs.Answers.{compared_answer, compared_with}
use Rattle.sort_compare.specs.Inner.{checked_answer}
use Rattle.sort_compare.specs.declared.compare.CompareRefusal.{CompareRefusal}
use Rattle.sort_compare.specs.declared.compare.CompareRefusal.TheVariants.{First, Second}

module _ (s t : Layout) (a b first second : Bytes) where
  pub short_first : length first < length a → is_refused 1 13 0 ≡ checked_answer s t a b first second
  unfolding checked_answer for_sheet room answer
  short_first l = rw (lt-ltb (length first) (length a) l)

  module _ (room-a : length a ≤ length first) where
    pub short-second : length second < length b → is_refused 2 13 0 ≡ checked_answer s t a b first second
    unfolding checked_answer for_sheet room answer
    short-second l = rw (le-ltb (length first) (length a) room-a, lt-ltb (length second) (length b) l)

    pub both-fit : {o : Ordering} → length b ≤ length second → o ≡ compare_formulas (formula_in s a) (formula_in t b)
        → is_ordered o ≡ checked_answer s t a b first second
    unfolding checked_answer for_sheet
    both-fit room-b e = rw (room_enough a first room-a, room_enough b second room-b) (ap is_ordered e)

-- Check has accepted both
pub both_checked : {f : Format} {a b : Bytes} {s t : Layout} → Sheet f a s → Sheet f b t → (first second : Bytes)
    → checked_answer s t a b first second ≡ compare_answer (format_of f) a b first second
unfolding checked_answer compare_answer for_sheet check
both_checked {f} {a} {b} x y first second =
    let F = format_of f in
    rw (answer-passes (check_tests F a) _ x.tests_pass, answer-passes (check_tests F b) _ y.tests_pass)
    (ap₂ (λ (g h : Formula). for_sheet 1 (room a first) (for_sheet 2 (room b second) (is_ordered (compare_formulas g h)))) (sheet-formula_in x)
    (sheet-formula_in y))

-- what the buffers hold at the end

module _ (first second : Bytes) (F : sheet.Format) (a b : Bytes) where
  pub call-refuses : (e : CompareRefusal) → compared_answer (Err e) ≡ compare_answer F a b first second
      → compared_with (Err e) first second ≡ compare_call F a b first second
  unfolding compare_call comparing
  call-refuses (First e) is = ap (comparing first second) is
  call-refuses (Second e) is = ap (comparing first second) is

  pub call-orders : (o : std.Ordering) → compared_answer (Ok o) ≡ compare_answer F a b first second → {x y : Bytes}
      → x ≡ take 0 first ++ replicate (length first - 0) 0 → y ≡ take 0 second ++ replicate (length second - 0) 0
      → compared_with (Ok o) x y ≡ compare_call F a b first second
  unfolding compare_call comparing
  call-orders o is ex ey =
      ap₂ (λ x y. record { answer = is_ordered (ordering o); first = x; second = y }) (ex ∙ ap (λ n. replicate n 0) (none (length first)))
      (ey ∙ ap (λ n. replicate n 0) (none (length second))) ∙
      ap (comparing first second) is
    where
      none : (n : ℕ) → n - 0 ≡ n
      none n = omega arith

-- what Check's answer says once its refusal has been put down to one of the two sheets

abbrev kept : Layout → Result Layout CompareRefusal
kept s = Ok s

abbrev turned : CompareRefusal → Result Layout CompareRefusal
turned e = Err e

no_layout : {A : Type 0} (e : CompareRefusal) (s : Layout) → turned e ≡ kept s → A
no_layout e s d = cc

same_layout : (s t : Layout) → kept s ≡ kept t → s ≡ t
same_layout s t d = cc

kept_layout : (r : Result Layout Refusal) (s : Layout) → MatchResult r (λ t. kept s ≡ kept t) (λ e. ⊥) → r ≡ Ok s
kept_layout (Ok t) s d = ap Ok (sym (same_layout s t d))
kept_layout (Err e) s d = absurd d

module _ (F : sheet.Format) (a b first second : Bytes) where
  pub first_refused : (r : Result Layout Refusal) (x : CompareRefusal) → checking.checked_answer r ≡ check F a
      → MatchResult r (λ t. turned x ≡ kept t) (λ e. x ≡ First e) → compared_answer (Err x) ≡ compare_answer F a b first second
  unfolding compare_answer for_sheet
  first_refused (Ok t) x e d = no_layout x t d
  first_refused (Err y) x e d = rw (d, sym e) refl

  pub second_refused : passes (check_tests F a) ≡ true → (r : Result Layout Refusal) (x : CompareRefusal) → checking.checked_answer r ≡ check F b
      → MatchResult r (λ t. turned x ≡ kept t) (λ e. x ≡ Second e) → compared_answer (Err x) ≡ compare_answer F a b first second
  unfolding compare_answer for_sheet check
  second_refused ok (Ok t) x e d = no_layout x t d
  second_refused ok (Err y) x e d = rw (d, answer-passes (check_tests F a) _ ok, sym e) refl

-- its layout is that of an accepted sheet
pub kept_sheet : (f : Format) (b : Bytes) (r : Result Layout Refusal) (s : Layout) → checking.checked_answer r ≡ check (format_of f) b
    → IfOk r (λ t. t.format ≡ f) → MatchResult r (λ t. kept s ≡ kept t) (λ e. ⊥) → Sheet f b s
kept_sheet f b r s told same d =
    let e = kept_layout r s d in
    sheet_checked (accepted_as e told) (IfOk-at_ok (λ (t : Layout). t.format ≡ f) e same)
