-- `capi_strategy::claiming::claim` packs what `claim` answers, and its number claims what the answer does.
-- Assumes nothing.
use Rattle.capi_strategy.specs.Claims.{side_of_kind}
use Rattle.capi_strategy.proofs.Telling.{claiming_joined, side_told, claim_told}
use Rattle.capi_strategy.proofs.claiming.claim.Goals as goal

pub returns-clause-told_claim : goal.returns-clause-told_claim
returns-clause-told_claim c =
    let a = c.args in
    (claim_told a.f a.sheet.now (side_of_kind a.side) a.strategy.now a.out.now
    (claiming_joined c.pack_claimed.ensures
    (side_told a.f a.sheet.now a.strategy.now a.out.now c.claim.ensures.out_after c.named_side.ensures))).1
