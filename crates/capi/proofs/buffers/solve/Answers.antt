-- `capi::buffers::solve` packs what `solve` answers, and its number claims what the answer does.
-- Assumes nothing.
use Rattle.capi.proofs.Telling.{solving-joined, solve_told}
use Rattle.capi.proofs.buffers.solve.Goals as goal

pub returns-clause-told_solve : goal.returns-clause-told_solve
returns-clause-told_solve c =
    let a = c.args in
    (solve_told a.f a.sheet.now a.first.now a.second.now
    (solving-joined c.pack_solved.ensures c.solve.ensures.second_after)).1
