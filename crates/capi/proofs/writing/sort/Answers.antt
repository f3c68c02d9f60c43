-- `capi::writing::sort` packs what `sort` answers, and its number claims what the answer does.
-- Assumes nothing.
use Rattle.capi.proofs.Telling.{written_joined, sort_told}
use Rattle.capi.proofs.writing.sort.Goals as goal

pub returns-clause-told_sheet : goal.returns-clause-told_sheet
returns-clause-told_sheet c =
    let a = c.args in
    (sort_told a.f a.sheet.now a.out.now
    (written_joined c.pack_written.ensures c.sort.ensures.out_after)).1
