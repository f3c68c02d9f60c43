-- A contract for C with what its number says about truth: each law takes the equation of the contract, and gives it back with the claim.
-- Assumes nothing.
use mathlib.Core.Path.{◌≡◌, refl, sym, ap, ◌∙◌, subst}
use mathlib.Core.Bool.{cond}
use Prim.Native.Nat.{ℕ}
use borrow.Author.Tests.{eq-eqb}
use Rattle.formula.specs.Tree.{Quantifier}
use Rattle.sheet.specs.Format as sheet
use Rattle.sheet.specs.Format.{Bytes}
use Rattle.sheet.specs.Operations.{Written}
use Rattle.sheet.specs.Strategy.{response_call, claim_refused, claim_written, Claiming, claim_call}
use Rattle.sheet.specs.Truthful.{TruthfulResponse, TruthfulClaim}
use Rattle.sheet.proofs.Truthful.{response_truthful, claim_truthful}
use Rattle.rows.specs.Formats.{format_of}
use Rattle.rows.specs.declared.Format.{Format}
use Rattle.rows.proofs.Limits.{sound}
use Rattle.packing.specs.Packed.{packed_written}
use Rattle.packing.specs.Unpacked.{number_of, word_of, low_of, high_of, FitsWritten}
use Rattle.packing.specs.Returned.{Output, packed_writing}
use Rattle.packing.proofs.Unpacking.{unpack_written}
use Rattle.packing.proofs.Telling.{zero_accepted}
use Rattle.capi_strategy.specs.Claims.{packed_claimed, unpacked_claimed, FitsClaimed}
use Rattle.capi_strategy.specs.Returned.{packed_claiming}
use Rattle.capi_strategy.specs.Told.{ToldResponse, ToldClaim}
use Rattle.capi_strategy.proofs.Unpacking.{unpack_claimed}
use Rattle.capi_strategy.proofs.Ranges.{response-fits, claim-fits}

-- Response

pub told_response : {F : sheet.Format} {b : Bytes} {x : ℕ} {w : Written} → FitsWritten w.answer → TruthfulResponse F b x w
    → ToldResponse F b x (packed_written w.answer) w.output
told_response {w = w} fits truthful =
    let n = packed_written w.answer in
    record { on_accepted = λ z. truthful.on_accepted (high_of n) (sym (unpack_written w.answer fits) ∙ zero_accepted n (high_of n) z) }

pub response_told : (f : Format) (b : Bytes) (x : ℕ) (out : Bytes) {o : Output} → o ≡ packed_writing (response_call (format_of f) b x out)
    → (o ≡ packed_writing (response_call (format_of f) b x out)) × ToldResponse (format_of f) b x o.number o.output
response_told f b x out e = (
  e,
  subst (λ (o : Output). ToldResponse (format_of f) b x o.number o.output) (sym e)
      (told_response (response-fits f b x out) (response_truthful (format_of f) (sound f) b x out refl)),
)

-- Claim

zero-claimed : (n : ℕ) → number_of n ≡ 0 → unpacked_claimed n ≡ claim_written (high_of n)
zero-claimed n z =
    ap (λ m. cond m (claim_written (high_of n)) (claim_refused (word_of n) (number_of n) (low_of n))) (eq-eqb (number_of n) 0 z)

pub told_claim : {F : sheet.Format} {b : Bytes} {q : Quantifier} {s : Bytes} {w : Claiming} → FitsClaimed w.answer → TruthfulClaim F b q s w
    → ToldClaim F b q s (packed_claimed w.answer) w.output
told_claim {w = w} fits truthful =
    let n = packed_claimed w.answer in
    record { on_written = λ z. truthful.on_written (high_of n) (sym (unpack_claimed w.answer fits) ∙ zero-claimed n z) }

-- what packing returns beside what the operation answers and leaves
pub claiming_joined : {r : ℕ} {w call : Claiming} → r ≡ packed_claimed w.answer → w ≡ call
    → ◌≡◌ {A = Output} (record { number = r; output = w.output }) (packed_claiming call)
claiming_joined {w = w} p e = ap (λ (n : ℕ). record { number = n; output = w.output }) p ∙ ap packed_claiming e

-- the side may be told by what it is equal to
pub side_told : (f : Format) (b s out : Bytes) {q k : Quantifier} {w : Claiming} → w ≡ claim_call (format_of f) b q s out → q ≡ k
    → w ≡ claim_call (format_of f) b k s out
side_told f b s out e same = e ∙ ap (λ (q : Quantifier). claim_call (format_of f) b q s out) same

pub claim_told : (f : Format) (b : Bytes) (q : Quantifier) (s out : Bytes) {o : Output} → o ≡ packed_claiming (claim_call (format_of f) b q s out)
    → (o ≡ packed_claiming (claim_call (format_of f) b q s out)) × ToldClaim (format_of f) b q s o.number o.output
claim_told f b q s out e = (
  e,
  subst (λ (o : Output). ToldClaim (format_of f) b q s o.number o.output) (sym e)
      (told_claim (claim-fits f b q s out) (claim_truthful (format_of f) (sound f) b q s out refl)),
)
