-- `capi_decide::splitting::split` packs what `split` answers, and its number claims what the answer does.
-- Assumes nothing.
use Rattle.packing.proofs.Telling.{written_joined}
use Rattle.capi_decide.proofs.Telling.{split_told}
use Rattle.capi_decide.proofs.splitting.split.Goals as goal

pub returns-clause-told_split : goal.returns-clause-told_split
returns-clause-told_split c =
    let a = c.args in
    (split_told a.f a.sheet.now a.values.now a.out.now
    (written_joined c.pack_written.ensures c.split.ensures.out_after)).1
