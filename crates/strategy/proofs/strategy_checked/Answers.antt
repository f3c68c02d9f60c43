-- `strategy::strategy_checked` meets its contract: Solve refuses, stops or ends, and then the strategy is written or too long. Assumes nothing.
use Rattle.std.proofs.Common.{refl, sym, ap, ◌∙◌}
use Rattle.std.proofs.lemmas.Result.{err_from_is_err_and}
use Rattle.rows.specs.Layouts.{format_in}
use Rattle.solve.specs.Answers.{run_leaves}
use Rattle.solve.proofs.Answering.{all_zeros}
use Rattle.strategy.proofs.Ending.{refused_strategy, stopped_strategy, ended_ready, ended_strategy}
use Rattle.strategy.proofs.strategy_checked.Goals as goal

pub returns-in_err-x : goal.returns-in_err-x
returns-in_err-x c =
    let a = c.args in
    let p = err_from_is_err_and c.from_residual.result c.from_residual.ensures.1 in
    rw (p.1, p.2) (refused_strategy (format_in a.s) a.sheet.now a.first.now a.second.now a.out.now c.in_err-x.ensures)

pub returns-in-Stopped : goal.returns-in-Stopped
returns-in-Stopped c =
    let a = c.args in
    stopped_strategy (format_in a.s) a.sheet.now a.first.now a.second.now a.out.now
    (ap (λ r. run_leaves r c.solve_checked.new.first c.solve_checked.new.second) (sym c.in-Stopped.is) ∙ c.in_ok-x.ensures)
    (c.clear.ensures ∙ all_zeros a.out.now refl)

pub write_strategy-requires : goal.write_strategy-requires
write_strategy-requires c =
    let a = c.args in
    let r = c.solve_checked in
    ended_ready a.s a.sheet.now a.first.now a.second.now
    (ap (λ s. run_leaves s r.new.first r.new.second) (sym c.in-Ended.is) ∙ c.in_ok-x.ensures) r.auto.first r.auto.second c.requires
    c.exists_wins.ensures

pub returns-in-Written : goal.returns-in-Written
returns-in-Written c =
    let a = c.args in
    let r = c.solve_checked in
    let w = c.write_strategy.ensures in
    ended_strategy a.s a.sheet.now a.first.now a.second.now
    (ap (λ s. run_leaves s r.new.first r.new.second) (sym c.in-Ended.is) ∙ c.in_ok-x.ensures) r.auto.first r.auto.second a.out.now
    c.exists_wins.ensures c.in-Written.ensures.strategy_ended w.first_after w.second_after

pub returns-in-TooLong : goal.returns-in-TooLong
returns-in-TooLong c =
    let a = c.args in
    let r = c.solve_checked in
    let w = c.write_strategy.ensures in
    ended_strategy a.s a.sheet.now a.first.now a.second.now
    (ap (λ s. run_leaves s r.new.first r.new.second) (sym c.in-Ended.is) ∙ c.in_ok-x.ensures) r.auto.first r.auto.second a.out.now
    c.exists_wins.ensures c.in-TooLong.ensures.strategy_ended w.first_after w.second_after
