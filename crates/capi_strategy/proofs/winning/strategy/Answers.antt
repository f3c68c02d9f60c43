-- `capi_strategy::winning::strategy` packs what `strategy` answers, and its number claims what the answer does.
-- Assumes nothing.
use Rattle.capi_strategy.proofs.Strategies.{winning-joined, strategy_told}
use Rattle.capi_strategy.proofs.winning.strategy.Goals as goal

pub returns-clause-told_strategy : goal.returns-clause-told_strategy
returns-clause-told_strategy c =
    let a = c.args in
    (strategy_told a.f a.sheet.now a.first.now a.second.now a.out.now
    (winning-joined c.pack_strategy.ensures c.strategy.ensures.out_after)).1
