-- `strategy::strategy` meets its contract: Check refuses the sheet, or it is answered. Assumes nothing.
use Rattle.std.proofs.Common.{ap, ◌∙◌}
use Rattle.std.proofs.lemmas.Result.{err_from_is_err_and}
use Rattle.sheet.specs.Strategy.{strategy_call}
use Rattle.sheet.proofs.Truthful.{strategy_truthful}
use Rattle.rows.specs.Formats.{format_of}
use Rattle.rows.proofs.Limits.{sound}
use Rattle.checking.proofs.CheckedSheets.{sheet_checked, sheet_own}
use Rattle.solve.proofs.Answering.{unchecked_call}
use Rattle.strategy.proofs.Ending.{refused_strategy}
use Rattle.strategy.proofs.strategy.Goals as goal

pub returns-in_err-s-clause-out_after : goal.returns-in_err-s-clause-out_after
returns-in_err-s-clause-out_after c =
    let a = c.args in
    let F = format_of a.f in
    let p = err_from_is_err_and c.from_residual.result c.from_residual.ensures.1 in
    rw (p.1, p.2)
    (refused_strategy F a.sheet.now a.first.now a.second.now a.out.now
    (unchecked_call F a.sheet.now a.first.now a.second.now c.in_err-s.ensures.answer))

pub returns-in_err-s-clause-truthful_strategy : goal.returns-in_err-s-clause-truthful_strategy
returns-in_err-s-clause-truthful_strategy c =
    let a = c.args in
    strategy_truthful (format_of a.f) (sound a.f) a.sheet.now a.first.now a.second.now a.out.now (returns-in_err-s-clause-out_after c)

pub strategy_checked-requires : goal.strategy_checked-requires
strategy_checked-requires c = sheet_own (sheet_checked c.in_ok-s.ensures.answer c.in_ok-s.ensures.format)

pub returns-clause-out_after : goal.returns-clause-out_after
returns-clause-out_after c =
    let a = c.args in
    c.strategy_checked.ensures ∙
    ap (λ f. strategy_call (format_of f) a.sheet.now a.first.now a.second.now a.out.now) c.in_ok-s.ensures.format

pub returns-clause-truthful_strategy : goal.returns-clause-truthful_strategy
returns-clause-truthful_strategy c =
    let a = c.args in
    strategy_truthful (format_of a.f) (sound a.f) a.sheet.now a.first.now a.second.now a.out.now (returns-clause-out_after c)
