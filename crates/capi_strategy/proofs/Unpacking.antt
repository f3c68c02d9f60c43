-- Taking a packed answer of Claim apart gives it back, where its values are in their ranges.
-- Assumes nothing.
use mathlib.Core.Path.{◌≡◌, ap, ap₂, ◌∙◌}
use native.Mathlib.Omega.{arith}
use Rattle.sheet.specs.Strategy.{Claimed, claim_refused, claim_written}
use Rattle.packing.specs.Packed.{packed}
use Rattle.packing.specs.Unpacked.{low_of}
use Rattle.packing.proofs.Unpacking.{number_back, word_back, low_back, high_back, refused_places, not_accepted, places, is_accepted}
use Rattle.capi_strategy.specs.Claims.{packed_claimed, unpacked_claimed, FitsClaimed}

pub unpack_claimed : (a : Claimed) → FitsClaimed a → unpacked_claimed (packed_claimed a) ≡ a
unfolding packed_claimed
unpack_claimed (claim_refused which number place) t =
    let p = refused_places which t.0 t.1 in
    rw (not_accepted which t.0 t.1)
    (ap₂ (λ w n. claim_refused w n (low_of (packed number which place 0))) (word_back number which place 0 p) (number_back number which place 0 p) ∙
    ap (claim_refused which number) (low_back number which place 0 p))
unpack_claimed (claim_written length) l =
    let p = places 0 0 length (omega arith) (omega arith) l in
    rw (is_accepted p) (ap claim_written (high_back 0 0 0 length p))
