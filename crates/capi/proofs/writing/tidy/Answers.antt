-- `capi::writing::tidy` packs what `tidy` answers, and its number claims what the answer does.
-- Assumes nothing.
use Rattle.capi.proofs.Telling.{written_joined, tidy_told}
use Rattle.capi.proofs.writing.tidy.Goals as goal

pub returns-clause-told_sheet : goal.returns-clause-told_sheet
returns-clause-told_sheet c =
    let a = c.args in
    (tidy_told a.f a.sheet.now a.out.now
    (written_joined c.pack_written.ensures c.tidy.ensures.out_after)).1
