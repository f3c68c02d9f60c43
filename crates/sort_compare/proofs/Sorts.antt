-- Sort's answer and output from Check's answer and the output's length.
-- Assumes nothing.
use mathlib.Core.Path.{◌≡◌, sym, ap, ap₂, ◌∙◌}
use mathlib.Core.Bool.{Bool, true, not, ◌&&◌}
use mathlib.Core.List.{[], ◌∷◌, ◌++◌}
use Prim.Native.Nat.{ℕ, ◌≤◌, ◌<◌}
use lib.Dec.{ltb}
use lib.ListN.{length}
use borrow.Author.Tests.{lt-ltb, le-ltb}
use Rattle.formula.specs.Order.{sorted}
use Rattle.sheet.specs.Format.{Bytes, Format}
use Rattle.sheet.specs.Sheet.{formula, sheet}
use Rattle.sheet.specs.Check.{refused, accepted, answer, passes, check_tests, check}
use Rattle.sheet.specs.Refusals.{no_room}
use Rattle.sheet.specs.Operations.{padded}
use Rattle.sheet.specs.Order.{room_test, sort_tests, sort_call}
use Rattle.sheet.proofs.Tests.{answer-++, passes-++, refused_first}
use Rattle.sheet.proofs.Writing.{written, write_refused, write_accepted}

refused_sort : (F : Format) (b out : Bytes) {n i : ℕ} → refused n i ≡ answer (sort_tests F b out) (length b)
    → record { answer = refused n i; output = out } ≡ sort_call F b out
unfolding sort_call
refused_sort F b out e =
    written (write_refused (sort_tests F b out) (length b) (sheet F (sorted (formula F b))) out e)

pub unchecked_sort : (F : Format) (b out : Bytes) {n i : ℕ} → refused n i ≡ check F b
    → record { answer = refused n i; output = out } ≡ sort_call F b out
unfolding sort_tests check
unchecked_sort F b out e = refused_sort F b out (refused_first (check_tests F b) (room_test b out ∷ []) _ (length b) e)

module _ (F : Format) (b out : Bytes) (ok : passes (check_tests F b) ≡ true) where
  pub short_sort : length out < length b → record { answer = refused no_room 0; output = out } ≡ sort_call F b out
  unfolding sort_tests answer
  short_sort l =
      refused_sort F b out
      (sym (answer-++ (check_tests F b) (room_test b out ∷ []) (length b) ok ∙ fails (ltb (length out) (length b)) (lt-ltb (length out) (length b) l)))
    where
      fails : (t : Bool) → t ≡ true → answer (record { fails = t; number = no_room; place = 0 } ∷ []) (length b) ≡ refused no_room 0
      fails t e = rw e

  pub long_sort : {end : ℕ} {new : Bytes} → length b ≤ length out → end ≡ length (sheet F (sorted (formula F b)))
      → new ≡ padded (length out) (sheet F (sorted (formula F b)))
      → record { answer = accepted end; output = new } ≡ sort_call F b out
  unfolding sort_call sort_tests passes
  long_sort l e n =
      let w = write_accepted (sort_tests F b out) (sheet F (sorted (formula F b))) out passed in
      written (ap accepted e ∙ w.0, n ∙ w.1)
    where
      passed : passes (check_tests F b ++ (room_test b out ∷ [])) ≡ true
      passed = passes-++ (check_tests F b) (room_test b out ∷ []) ∙ ap₂ (λ p q. p && (not q && true)) ok (le-ltb (length out) (length b) l)
