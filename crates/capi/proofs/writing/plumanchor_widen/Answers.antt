-- `capi::writing::plumanchor_widen` packs what `to_wide` answers, and its number claims what the answer does.
-- Assumes nothing.
use Rattle.capi.proofs.Telling.{written_joined, to_wide_told}
use Rattle.capi.proofs.writing.plumanchor_widen.Goals as goal

pub returns-clause-told_sheet : goal.returns-clause-told_sheet
returns-clause-told_sheet c =
    let a = c.args in
    (to_wide_told a.sheet.now a.out.now
    (written_joined c.pack_written.ensures c.to_wide.ensures.out_after)).1
