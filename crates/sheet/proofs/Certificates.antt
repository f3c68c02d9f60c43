-- Certify on bytes: a verdict is the truth of the sheet, it refuses exactly what Check refuses, and the number in place of a verdict is that
-- of the first step that isn't valid, or of all steps.
-- Assumes nothing.
use mathlib.Core.Path.{◌≡◌, refl, ap}
use mathlib.Core.Bool.{Bool, true, false, cond}
use mathlib.Core.List.{List, [], ◌∷◌}
use mathlib.Core.Logic.{◌⊎◌, ◌↔◌}
use Prim.Native.Nat.{ℕ, zero, suc, ◌/◌}
use native.Mathlib.Omega.{arith}
use lib.ListN.{length}
use Rattle.formula.specs.Tree.{Op}
use Rattle.formula.specs.Truth.{truth}
use Rattle.formula.specs.Certificates.{valid_steps, ends_empty, Certified, certain, uncertain, certified, FirstInvalid}
use Rattle.formula.proofs.Certificates.Truth.{certified-truth}
use Rattle.formula.proofs.Certificates.Answers.{uncertain_first}
use Rattle.sheet.specs.Format.{Bytes, Format, variables, nodes}
use Rattle.sheet.specs.Sheet.{formula}
use Rattle.sheet.specs.Check.{refused, accepted, Test, answer, check_tests, Sizes, check}
use Rattle.sheet.specs.Certificates.{steps_from, steps_said, certify_call}
use Rattle.sheet.proofs.Tests.{accepted_passes}
use Rattle.sheet.proofs.Accepted.{accepted_within}

-- a refusal is the same whatever would be returned
refused_same : {A B : Type 0} {n i : ℕ} (ts : List Test) (a : A) (b : B) → answer ts a ≡ refused n i → answer ts b ≡ refused n i
unfolding answer
refused_same [] a b h = let z : ◌≡◌ {A = ℕ} 0 1 = cc in absurd (omega arith)
refused_same {A} {B} {n} {i} (t ∷ ts) a b h = go t.fails h (refused_same ts a b)
  where
    go : (f : Bool) → cond f (refused t.number t.place) (answer ts a) ≡ refused n i
        → (answer ts a ≡ refused n i → answer ts b ≡ refused n i)
        → cond f (refused t.number t.place) (answer ts b) ≡ refused n i
    go true e ih = cc
    go false e ih = ih e

pub length_steps : (heads codes : List ℕ) (k n : ℕ) → length (steps_from heads codes k n) ≡ n
unfolding steps_from
length_steps heads codes k zero = refl
length_steps heads codes k (suc n) = ap suc (length_steps heads codes (suc k) n)

module _ (F : Format) (b : Bytes) (o : Op) (heads codes : List ℕ) where
  -- an answer that is no refusal is that of the steps
  certify_accepted : (c : Certified) → certify_call F b o heads codes ≡ accepted c → certified o (formula F b) (steps_said heads codes) ≡ c
  unfolding certify_call
  certify_accepted c h = (accepted_passes (check_tests F b) _ c h).1

  pub certify_right : (v : Bool) → certify_call F b o heads codes ≡ accepted (certain v) → truth (formula F b) ≡ v
  unfolding certify_call
  certify_right v h =
      let passed = accepted_passes (check_tests F b) _ (certain v) h in
      certified-truth o (formula F b) (steps_said heads codes) v (accepted_within F b passed.0).is_distinct passed.1

  pub certify_refuses : (n i : ℕ) → (certify_call F b o heads codes ≡ refused n i) ↔ (check F b ≡ refused n i)
  unfolding certify_call check
  certify_refuses n i =
      let sizes : Sizes = record { variables = variables F b; nodes = nodes F b } in
      let steps = certified o (formula F b) (steps_said heads codes) in
      (refused_same (check_tests F b) steps sizes, refused_same (check_tests F b) sizes steps)

  pub certify_first : (n : ℕ) → certify_call F b o heads codes ≡ accepted (uncertain n)
      → FirstInvalid o (formula F b) (steps_said heads codes) n
      ⊎ ((n ≡ length heads / 4) × (valid_steps o (formula F b) [] (steps_said heads codes) ≡ n) × (ends_empty (steps_said heads codes) ≡ false))
  unfolding steps_said
  certify_first n h =
      rw (length_steps heads codes 0 (length heads / 4)) at (uncertain_first o (formula F b) (steps_said heads codes) n (certify_accepted (uncertain n) h))
