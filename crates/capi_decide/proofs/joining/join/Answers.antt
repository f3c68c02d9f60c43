-- `capi_decide::joining::join` packs what `join` answers, and its number claims what the answer does.
-- Assumes nothing.
use Rattle.std.proofs.Common.{◌∙◌, ap}
use Rattle.capi_decide.specs.Packed.{packed_joined}
use Rattle.capi_decide.proofs.Telling.{join_told}
use Rattle.capi_decide.proofs.joining.join.Goals as goal

pub returns-clause-told_join : goal.returns-clause-told_join
returns-clause-told_join c =
    let a = c.args in
    (join_told a.f a.sheet.now a.k a.answers.now
    (c.pack_joined.ensures ∙ ap packed_joined c.join.ensures.result_value)).1
