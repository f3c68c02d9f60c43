-- `capi::resuming::plumanchor_resume` packs what `resume` answers, and its number claims what the answer does.
-- Assumes nothing.
use Rattle.std.proofs.Common.{◌∙◌, ap, not, eqb}
use Rattle.sheet.specs.Resume.{resume_call}
use Rattle.capi.proofs.Telling.{solving-joined, resume_told}
use Rattle.capi.proofs.resuming.plumanchor_resume.Goals as goal

pub returns-clause-told_solve : goal.returns-clause-told_solve
returns-clause-told_solve c =
    let a = c.args in
    (resume_told a.started a.settled a.expanded a.sheet.now (not (eqb a.narrow 0)) a.first.now a.second.now
    (solving-joined c.pack_solved.ensures
    (c.resume.ensures.second_after ∙
    ap (λ w. resume_call a.started a.settled a.expanded a.sheet.now w a.first.now a.second.now) c.named_format.ensures))).1
