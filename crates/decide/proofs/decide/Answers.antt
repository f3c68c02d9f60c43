-- `decide::decide` meets its contract: Check refuses the sheet, or it is decided. Assumes nothing.
use Rattle.std.proofs.Common.{ap, ◌∙◌}
use Rattle.std.proofs.lemmas.Result.{err_from_is_err_and}
use Rattle.sheet.specs.Decide.{decide_call}
use Rattle.sheet.proofs.Truthful.{decide_truthful}
use Rattle.rows.specs.Formats.{format_of}
use Rattle.checking.proofs.CheckedSheets.{sheet_checked, sheet_own}
use Rattle.decide.proofs.Answering.{unchecked_call}
use Rattle.decide.proofs.decide.Goals as goal

pub returns-in_err-s-clause-stack_value : goal.returns-in_err-s-clause-stack_value
returns-in_err-s-clause-stack_value c =
    let a = c.args in
    let p = err_from_is_err_and c.from_residual.result c.from_residual.ensures.1 in
    rw (p.1, p.2) (unchecked_call (format_of a.f) a.sheet.now a.budget a.first.now a.second.now a.stack.now c.in_err-s.ensures.answer)

pub returns-in_err-s-clause-truthful_decide : goal.returns-in_err-s-clause-truthful_decide
returns-in_err-s-clause-truthful_decide c =
    let a = c.args in
    decide_truthful (format_of a.f) a.sheet.now a.budget a.first.now a.second.now a.stack.now (returns-in_err-s-clause-stack_value c)

pub decide_checked-requires : goal.decide_checked-requires
decide_checked-requires c = sheet_own (sheet_checked c.in_ok-s.ensures.answer c.in_ok-s.ensures.format)

pub returns-clause-stack_value : goal.returns-clause-stack_value
returns-clause-stack_value c =
    let a = c.args in
    c.decide_checked.ensures ∙
    ap (λ f. decide_call (format_of f) a.sheet.now a.budget a.first.now a.second.now a.stack.now) c.in_ok-s.ensures.format

pub returns-clause-truthful_decide : goal.returns-clause-truthful_decide
returns-clause-truthful_decide c =
    let a = c.args in
    decide_truthful (format_of a.f) a.sheet.now a.budget a.first.now a.second.now a.stack.now (returns-clause-stack_value c)
