-- `capi::panel::force` packs what `force` answers, and its number claims what the answer does.
-- Assumes nothing.
use Rattle.capi.proofs.Telling.{forcing_joined, force_told}
use Rattle.capi.proofs.panel.force.Goals as goal

pub returns-clause-told_force : goal.returns-clause-told_force
returns-clause-told_force c =
    let a = c.args in
    (force_told a.f a.sheet.now a.values.now a.first.now a.second.now
    (forcing_joined c.pack_forced.ensures c.force.ensures.second_after)).1
