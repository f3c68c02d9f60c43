-- `capi::writing::expand` packs what `expand` answers, and its number claims what the answer does.
-- Assumes nothing.
use Rattle.capi.proofs.Telling.{written_joined, expand_told}
use Rattle.capi.proofs.writing.expand.Goals as goal

pub returns-clause-told_sheet : goal.returns-clause-told_sheet
returns-clause-told_sheet c =
    let a = c.args in
    (expand_told a.f a.sheet.now a.x a.out.now
    (written_joined c.pack_written.ensures c.expand.ensures.out_after)).1
