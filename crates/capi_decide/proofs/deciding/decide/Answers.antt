-- `capi_decide::deciding::decide` packs what `decide` answers, and its number claims what the answer does.
-- Assumes nothing.
use Rattle.std.proofs.Common.{◌∙◌, ap}
use Rattle.sheet.specs.Decide.{decide_call}
use Rattle.rows.specs.Formats.{format_of}
use Rattle.capi_decide.proofs.Telling.{deciding-joined, decide_told}
use Rattle.capi_decide.proofs.deciding.decide.Goals as goal

pub returns-clause-told_decide : goal.returns-clause-told_decide
returns-clause-told_decide c =
    let a = c.args in
    (decide_told a.f a.sheet.now a.budget a.first.now a.second.now a.stack.now
    (deciding-joined c.pack_decided.ensures
    (c.decide.ensures.stack_value ∙
    ap (λ n. decide_call (format_of a.f) a.sheet.now n a.first.now a.second.now a.stack.now) c.shorter-most.ensures))).1
