-- `capi::buffers::guards` packs what `guards` answers, and its number claims what the answer does.
-- Assumes nothing.
use Rattle.capi.proofs.Telling.{guarding-joined, guards_told}
use Rattle.capi.proofs.buffers.guards.Goals as goal

pub returns-clause-told_guards : goal.returns-clause-told_guards
returns-clause-told_guards c =
    let a = c.args in
    (guards_told a.f a.sheet.now a.out.now a.first.now a.second.now
    (guarding-joined c.pack_guarded.ensures c.guards.ensures.second_after)).1
