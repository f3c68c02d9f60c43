-- Tidy's answer and output from Check's answer and the output's length.
-- Assumes nothing.
use mathlib.Core.Path.{◌≡◌, sym, ap, ap₂, ◌∙◌}
use mathlib.Core.Bool.{Bool, true, false, cond}
use mathlib.Core.List.{List, [], ◌∷◌, ◌++◌}
use Prim.Native.Nat.{ℕ, ◌≤◌, ◌<◌}
use native.Mathlib.Omega.{arith}
use lib.Dec.{ltb}
use lib.ListN.{length}
use borrow.Author.Tests.{lt-ltb, le-ltb}
use Rattle.formula.specs.Tidy.{tidied}
use Rattle.sheet.specs.Format.{Bytes, Format}
use Rattle.sheet.specs.Sheet.{formula, sheet}
use Rattle.sheet.specs.Check.{Answer, refused, accepted, Test, test, answer, passes, check_tests, check}
use Rattle.sheet.specs.Refusals.{no_room}
use Rattle.sheet.specs.Operations.{padded, output_after, write, tidy_tests, tidy_call}
use Rattle.sheet.proofs.Tests.{answer-++}

refused-++ : {A B : Type 0} (ts us : List Test) (a : A) (a' : B) (k p : ℕ) → answer ts a ≡ refused k p → answer (ts ++ us) a' ≡ refused k p
unfolding answer
refused-++ [] us a a' k p e = let z : ◌≡◌ {A = ℕ} 0 1 = cc in absurd (omega arith)
refused-++ (t ∷ ts) us a a' k p e = go t.fails e (refused-++ ts us a a' k p)
  where
    go : (b : Bool) → cond b (refused t.number t.place) (answer ts a) ≡ refused k p
        → (answer ts a ≡ refused k p → answer (ts ++ us) a' ≡ refused k p)
        → cond b (refused t.number t.place) (answer (ts ++ us) a') ≡ refused k p
    go true e ih = cc
    go false e ih = ih e

-- a refused call, by its answer
refused_call : (tests : List Test) (new out : Bytes) {k p : ℕ} → answer tests (length new) ≡ refused k p
    → record { answer = refused k p; output = out } ≡ write tests new out
unfolding write output_after
refused_call tests new out e = ap (λ (a : Answer ℕ). record { answer = a; output = output_after a new out }) (sym e)

pub unchecked_call : (F : Format) (b out : Bytes) {k p : ℕ} → refused k p ≡ check F b
    → record { answer = refused k p; output = out } ≡ tidy_call F b out
unfolding tidy_call tidy_tests check
unchecked_call F b out {k} {p} e =
    refused_call (tidy_tests F b (length out)) (sheet F (tidied (formula F b))) out
    (refused-++ (check_tests F b) (test (ltb (length out) (length b)) no_room 0 ∷ []) _ _ k p (sym e))

module _ (F : Format) (b out : Bytes) (h : passes (check_tests F b) ≡ true) where
  abbrev new : Bytes
  new = sheet F (tidied (formula F b))

  -- the last test decides
  answered : (short : Bool) → ltb (length out) (length b) ≡ short
      → answer (tidy_tests F b (length out)) (length new) ≡ cond short (refused no_room 0) (accepted (length new))
  unfolding tidy_tests answer
  answered short e =
      answer-++ (check_tests F b) (test (ltb (length out) (length b)) no_room 0 ∷ []) _ h ∙
      ap (λ t. cond t (refused no_room 0) (accepted (length new))) e

  pub short_call : length out < length b → record { answer = refused no_room 0; output = out } ≡ tidy_call F b out
  unfolding tidy_call
  short_call l = refused_call (tidy_tests F b (length out)) new out (answered true (lt-ltb (length out) (length b) l))

  pub long_call : {end : ℕ} {written : Bytes} → length b ≤ length out → end ≡ length new → written ≡ padded (length out) new
      → record { answer = accepted end; output = written } ≡ tidy_call F b out
  unfolding tidy_call write output_after
  long_call l e n =
      ap₂ (λ len bytes. record { answer = accepted len; output = bytes }) e n ∙
      ap (λ (a : Answer ℕ). record { answer = a; output = output_after a new out }) (sym (answered false (le-ltb (length out) (length b) l)))
