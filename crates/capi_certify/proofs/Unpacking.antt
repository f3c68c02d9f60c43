-- Taking a packed answer of Certify apart gives it back: always where fewer than 2 to the power 32 steps are handed in.
-- Assumes nothing.
use mathlib.Core.Path.{◌≡◌, refl, sym, ap, ap₂, ◌∙◌}
use mathlib.Core.Bool.{Bool, true, false, cond}
use mathlib.Core.List.{List, [], ◌∷◌, ◌++◌}
use mathlib.Core.Logic.{◌⊎◌, inl, inr}
use Prim.Native.Nat.{ℕ, suc, ◌+◌, ◌/◌, ◌≤◌, ◌<◌}
use native.Mathlib.Omega.{arith}
use lib.Dec.{eqb}
use lib.ListN.{length, length-append}
use Rattle.formula.specs.Tree.{Op}
use Rattle.formula.specs.Certificates.{valid_steps, ends_empty, Certified, certain, uncertain, certified, FirstInvalid}
use Rattle.sheet.specs.Format.{Bytes}
use Rattle.sheet.specs.Sheet.{formula}
use Rattle.sheet.specs.Check.{Answer, refused, accepted, check_tests}
use Rattle.sheet.specs.Certificates.{steps_said, certify_call}
use Rattle.sheet.proofs.Known.{refused_known, check-known, check-alone}
use Rattle.sheet.proofs.Certificates.{length_steps, certify_first}
use Rattle.rows.specs.Formats.{format_of}
use Rattle.rows.specs.declared.Format.{Format}
use Rattle.packing.proofs.Unpacking.{word_back, high_back, places, unpack_refused, unpack_accepted}
use Rattle.packing.proofs.Ranges.{told}
use Rattle.capi_certify.specs.Packed.{packed_certified}
use Rattle.capi_certify.specs.Unpacked.{unpacked_certified, FitsCertified}

pub unpack_certified : (a : Answer Certified) → FitsCertified a → unpacked_certified (packed_certified a) ≡ a
unfolding packed_certified
unpack_certified (refused number place) t = unpack_refused _ t
unpack_certified (accepted (certain true)) t = refl
unpack_certified (accepted (certain false)) t = refl
unpack_certified (accepted (uncertain n)) l =
    let p = places 2 0 n (omega arith) (omega arith) l in
    unpack_accepted p (ap₂ (λ w h. cond (eqb w 2) (uncertain h) (certain (eqb w 1))) (word_back 0 2 0 n p) (high_back 0 2 0 n p))

module _ (f : Format) (b : Bytes) (o : Op) (heads codes : List ℕ) where
  -- the number in place of a verdict is at most that of all steps
  step_most : (n : ℕ) → certify_call (format_of f) b o heads codes ≡ accepted (uncertain n) → n ≤ length heads / 4
  unfolding steps_said
  step_most n e = by (certify_first (format_of f) b o heads codes n e)
    where
      by : FirstInvalid o (formula (format_of f) b) (steps_said heads codes) n
          ⊎ ((n ≡ length heads / 4) × (valid_steps o (formula (format_of f) b) [] (steps_said heads codes) ≡ n) × (ends_empty (steps_said heads codes) ≡ false))
          → n ≤ length heads / 4
      by (inl i) =
          let all = sym (length_steps heads codes 0 (length heads / 4)) ∙ ap length i.is_split ∙ length-append i.before (i.step ∷ i.behind) in
          omega (arith, all, i.is_number)
      by (inr p) = omega (arith, p.0)

  -- heads of fewer than 2 to the power 34 words say fewer than 2 to the power 32 steps
  pub certify_fits : length heads < 17179869184 → FitsCertified (certify_call (format_of f) b o heads codes)
  unfolding certify_call
  certify_fits few = by (certify_call (format_of f) b o heads codes) refl
    where
      by : (a : Answer Certified) → certify_call (format_of f) b o heads codes ≡ a → FitsCertified a
      by (refused n i) e = told f (refused_known (check_tests (format_of f) b) _ (check-known (format_of f) b) e) (check-alone (format_of f) b _ e)
      by (accepted (certain v)) e = tt
      by (accepted (uncertain n)) e = omega (arith, few, step_most n e)
