-- `capi::writing::settle` packs what `settle` answers, and its number claims what the answer does.
-- Assumes nothing.
use Rattle.capi.proofs.Telling.{written_joined, settle_told}
use Rattle.capi.proofs.writing.settle.Goals as goal

pub returns-clause-told_sheet : goal.returns-clause-told_sheet
returns-clause-told_sheet c =
    let a = c.args in
    (settle_told a.f a.sheet.now a.x a.out.now
    (written_joined c.pack_written.ensures c.settle.ensures.out_after)).1
