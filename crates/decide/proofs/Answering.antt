-- What Decide answers and leaves, from Check's answer, the buffers' lengths and the search.
-- Assumes nothing.
use mathlib.Core.Path.{◌≡◌, sym, ap, ap₂, ◌∙◌}
use mathlib.Core.Bool.{Bool, cond}
use mathlib.Core.List.{[], ◌∷◌, ◌++◌}
use Prim.Native.Nat.{ℕ, ◌≤◌, ◌<◌, min}
use native.Mathlib.Omega.{arith}
use lib.Dec.{ltb}
use lib.ListN.{length, drop, replicate}
use borrow.Author.Tests.{lt-ltb, le-ltb}
use Rattle.formula.specs.Tree.{Formula}
use Rattle.formula.specs.Decide.{Decision, decide}
use Rattle.sheet.specs.Format as sheet
use Rattle.sheet.specs.Format.{Bytes, fits}
use Rattle.sheet.specs.Check.{Answer, refused, accepted, test, answer, check_tests, check}
use Rattle.sheet.specs.Operations.{tidy_tests}
use Rattle.sheet.specs.Trace.{room}
use Rattle.sheet.specs.Decide.{DecideAnswer, decide_refused, decide_answer, Deciding, deciding, places, decision, decide_call}
use Rattle.sheet.proofs.Tests.{answer-++, refused_first}
use Rattle.rows.specs.Layouts.{format_in}
use Rattle.rows.specs.declared.Layout.{Layout}
use Rattle.checking.specs.Sheets.{Sheet}
use Rattle.tidying.proofs.Raw.{length-copied, copied_formula}
use Rattle.decide.specs.Inner.Searching.{found}

module _ (F : sheet.Format) (b : Bytes) (budget : ℕ) (first second stack : Bytes) where
  abbrev whole : Decision
  whole = decision F b budget first second stack

  abbrev left : DecideAnswer → Deciding
  left a = record { answer = a; first = first; second = second; stack = stack }

  refused_call : {k p : ℕ} → refused k p ≡ answer (tidy_tests F b (room first second)) whole
      → left (decide_refused k p) ≡ decide_call F b budget first second stack
  unfolding decide_call deciding
  refused_call e = ap (deciding first second stack) e

  -- 1 to 8
  pub unchecked_call : {k p : ℕ} → refused k p ≡ check F b → left (decide_refused k p) ≡ decide_call F b budget first second stack
  unfolding check tidy_tests
  unchecked_call e = refused_call (refused_first (check_tests F b) _ _ _ e)

module _ {b : Bytes} {s : Layout} (h : Sheet s.format b s) (budget : ℕ) (first second stack : Bytes) where
  abbrev G : sheet.Format
  G = format_in s

  abbrev all : Decision
  all = whole G b budget first second stack

  later : (a : Answer Decision) → answer (test (ltb (room first second) (length b)) 13 0 ∷ []) all ≡ a
      → answer (tidy_tests G b (room first second)) all ≡ a
  unfolding tidy_tests
  later a e = answer-++ (check_tests G b) _ all h.tests_pass ∙ e

  -- 13 a work buffer shorter than the sheet
  pub short_call : room first second < length b
      → left G b budget first second stack (decide_refused 13 0) ≡ decide_call G b budget first second stack
  unfolding answer
  short_call l =
      refused_call G b budget first second stack
      (sym (later (refused 13 0) (ap (λ (t : Bool). cond t (refused 13 0) (accepted all)) (lt-ltb (room first second) (length b) l))))

  module _ (l : length b ≤ room first second) {copied : Bytes} (is : copied ≡ b ++ drop (length b) first) where
    in_first : length b ≤ length first
    in_first = omega arith

    passed : answer (tidy_tests G b (room first second)) all ≡ accepted all
    unfolding answer
    passed = later (accepted all) (ap (λ (t : Bool). cond t (refused 13 0) (accepted all)) (le-ltb (room first second) (length b) l))

    same-search : found s copied second (length stack) budget ≡ all
    same-search =
        ap₂ (λ (n : ℕ) (f : Formula).
        decide (fits G (min n (length second))) (places (length stack) (min n (length second))) budget f) (length-copied h first in_first is)
        (copied_formula h first in_first is)

    abbrev zeros : ℕ → Bytes
    zeros n = replicate n 0

    pub decided-call : {d : Decision} → d ≡ found s copied second (length stack) budget → {first' second' stack' : Bytes} → first' ≡ zeros (length first)
        → second' ≡ zeros (length second) → stack' ≡ zeros (length stack)
        → record { answer = decide_answer d.outcome d.runs; first = first'; second = second'; stack = stack' } ≡ decide_call G b budget first second stack
    unfolding decide_call deciding
    decided-call {d} e {first'} {second'} {stack'} z₁ z₂ z₃ =
        ap₂ (λ (x y : Bytes). record { answer = decide_answer d.outcome d.runs; first = x; second = y; stack = stack' }) z₁ z₂ ∙
        ap₂ (λ (c : DecideAnswer) (x : Bytes). record { answer = c; first = zeros (length first); second = zeros (length second); stack = x })
        (ap (λ (d : Decision). decide_answer d.outcome d.runs) (e ∙ same-search)) z₃ ∙
        ap (deciding first second stack) (sym passed)
