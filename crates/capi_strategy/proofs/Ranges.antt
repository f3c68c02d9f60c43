-- Every answer has values in their ranges, so that taking it apart gives it back.
-- Assumes nothing.
use mathlib.Core.Path.{◌≡◌, refl, ◌∙◌, ap, subst}
use mathlib.Core.Bool.{true}
use mathlib.Core.List.{List}
use Prim.Native.Nat.{ℕ, ◌-◌, ◌≤◌, ◌<◌}
use native.Mathlib.Omega.{arith}
use lib.ListN.{length, take, replicate, length-append, length-replicate, length-take}
use Rattle.formula.specs.Tree.{Quantifier}
use Rattle.sheet.specs.Format as sheet
use Rattle.sheet.specs.Format.{Bytes}
use Rattle.sheet.specs.Sheet.{formula, sheet as sheet-of}
use Rattle.sheet.specs.Check.{Answer, refused, accepted, Test, answer, passes, check_tests, last_place}
use Rattle.sheet.specs.Operations.{padded, write}
use Rattle.sheet.specs.Strategy.{response, response_tests, response_call}
use Rattle.sheet.specs.Strategy.{Claimed, claim_refused, claim_written, claim_formula, claim_answer, claim_output, claim_call}
use Rattle.sheet.proofs.Tests.{accepted_passes}
use Rattle.sheet.proofs.Calls.{front_written}
use Rattle.sheet.proofs.Known.{refused_known, response-known, response-place}
use Rattle.sheet.proofs.Strategy.Response.{response_right}
use Rattle.sheet.proofs.Strategy.Claim.{claims_right, claim_placed}
use Rattle.sheet.proofs.Strategy.Known.{claim-known}
use Rattle.rows.specs.Formats.{format_of}
use Rattle.rows.specs.declared.Format.{Format}
use Rattle.rows.specs.declared.Format.TheVariants.{Narrow, Wide}
use Rattle.rows.proofs.Limits.{sound}
use Rattle.packing.specs.Unpacked.{FitsWritten}
use Rattle.packing.proofs.Ranges.{told, short}
use Rattle.capi_strategy.specs.Claims.{FitsClaimed}

place_small : (f : Format) {i : ℕ} → i ≤ last_place (format_of f) → i < 65536
place_small Narrow l = omega arith
place_small Wide l = omega arith

module _ (f : Format) (b : Bytes) where
  abbrev F : sheet.Format
  F = format_of f

  -- Response: known numbers, and a sheet that Check accepts
  pub response-fits : (x : ℕ) (out : Bytes) → FitsWritten (response_call F b x out).answer
  unfolding response_call write
  response-fits x out = by (answer tests (length new)) refl
    where
      tests : List Test
      tests = response_tests F b x (length out)

      new : Bytes
      new = sheet-of F (response x (formula F b))

      by : (a : Answer ℕ) → answer tests (length new) ≡ a → FitsWritten a
      by (refused n i) e = told f (refused_known tests (length new) (response-known F b x (length out)) e) (response-place F b (length new) x (length out) e)
      by (accepted n) e =
          let front = (front_written tests new out n e).1 in
          let ok = subst (λ (c : Bytes). passes (check_tests F c) ≡ true) front (response_right F b x out (sound f) n e).is_accepted in
          omega (arith, (accepted_passes tests (length new) n e).1, short f new ok)

  -- Claim: numbers up to 27 of one of two sheets or the output, and a sheet that Check accepts
  pub claim-fits : (q : Quantifier) (s out : Bytes) → FitsClaimed (claim_call F b q s out).answer
  unfolding claim_call claim_output padded
  claim-fits q s out = by (claim_answer F b q s (length out)) refl
    where
      new : Bytes
      new = sheet-of F (claim_formula F b q s)

      left : Bytes
      left = (claim_call F b q s out).output

      by : (a : Claimed) → claim_answer F b q s (length out) ≡ a → FitsClaimed a
      by (claim_refused which n i) e =
          let k = claim-known F b q s (length out) which n i e in
          (omega (arith, k.0), record { is_number = k.1; small_number = omega (arith, k.2); small_place = place_small f k.3 })
      by (claim_written n) e =
          let whole = ap (λ (a : Claimed). length (claim_output a new out)) e ∙ length-append new (replicate (length out - length new) 0) in
          let zeros = length-replicate {A = ℕ} (length out - length new) 0 in
          let ok = (claims_right F b q s out (sound f) n e).is_accepted in
          omega (arith, claim_placed F b q s out n e, whole, zeros, length-take n left, short f (take n left) ok)
