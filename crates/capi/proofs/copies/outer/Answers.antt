-- `capi::copies::outer` packs what `outer` answers, and its number claims what the answer does.
-- Assumes nothing.
use Rattle.capi.proofs.Telling.{copied-joined, outer_said}
use Rattle.capi.proofs.copies.outer.Goals as goal

pub returns-clause-told_copied : goal.returns-clause-told_copied
returns-clause-told_copied c =
    let a = c.args in
    (outer_said a.f a.sheet.now a.x a.out.now
    (copied-joined c.pack_copied.ensures c.outer.ensures.out_after)).1
