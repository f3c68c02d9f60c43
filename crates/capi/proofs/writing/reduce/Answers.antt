-- `capi::writing::reduce` packs what `reduce` answers, and its number claims what the answer does.
-- Assumes nothing.
use Rattle.capi.proofs.Telling.{written_joined, reduce_told}
use Rattle.capi.proofs.writing.reduce.Goals as goal

pub returns-clause-told_sheet : goal.returns-clause-told_sheet
returns-clause-told_sheet c =
    let a = c.args in
    (reduce_told a.f a.sheet.now a.out.now
    (written_joined c.pack_written.ensures c.reduce.ensures.out_after)).1
