-- `capi::texts::qdimacs` packs what `qdimacs` answers, and its number claims what the answer does.
-- Assumes nothing.
use Rattle.capi.proofs.Telling.{written_joined, qdimacs_told}
use Rattle.capi.proofs.texts.qdimacs.Goals as goal

pub returns-clause-told_sheet : goal.returns-clause-told_sheet
returns-clause-told_sheet c =
    let a = c.args in
    (qdimacs_told a.f a.text.now a.out.now
    (written_joined c.pack_written.ensures c.qdimacs.ensures.0)).1
