-- `capi::writing::execute` packs what `execute` answers, and its number claims what the answer does.
-- Assumes nothing.
use Rattle.capi.proofs.Telling.{written_joined, execute_told}
use Rattle.capi.proofs.writing.execute.Goals as goal

pub returns-clause-told_sheet : goal.returns-clause-told_sheet
returns-clause-told_sheet c =
    let a = c.args in
    (execute_told a.f a.sheet.now a.x a.ceiling a.out.now
    (written_joined c.pack_written.ensures c.execute.ensures.out_after)).1
