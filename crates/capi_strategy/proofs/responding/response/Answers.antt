-- `capi_strategy::responding::response` packs what `response` answers, and its number claims what the answer does.
-- Assumes nothing.
use Rattle.packing.proofs.Telling.{written_joined}
use Rattle.capi_strategy.proofs.Telling.{response_told}
use Rattle.capi_strategy.proofs.responding.response.Goals as goal

pub returns-clause-told_response : goal.returns-clause-told_response
returns-clause-told_response c =
    let a = c.args in
    (response_told a.f a.sheet.now a.x a.out.now
    (written_joined c.pack_written.ensures c.response.ensures.out_after)).1
