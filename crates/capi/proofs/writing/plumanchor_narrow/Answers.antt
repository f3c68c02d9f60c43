-- `capi::writing::plumanchor_narrow` packs what `to_narrow` answers, and its number claims what the answer does.
-- Assumes nothing.
use Rattle.capi.proofs.Telling.{written_joined, to_narrow_told}
use Rattle.capi.proofs.writing.plumanchor_narrow.Goals as goal

pub returns-clause-told_sheet : goal.returns-clause-told_sheet
returns-clause-told_sheet c =
    let a = c.args in
    (to_narrow_told a.sheet.now a.out.now
    (written_joined c.pack_written.ensures c.to_narrow.ensures.out_after)).1
