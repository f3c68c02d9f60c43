-- The goals of `step_list::follow`. Assumes nothing.
use Rattle.std.proofs.Common.{arith}
use native.Mathlib.Numerals.{add-one}
use Rattle.rows.specs.Formats.{format_of}
use Rattle.step_list.proofs.Walking.{walked_none, walked_next, followed}
use Rattle.step_list.proofs.follow.Goals as goal

pub loop-step-init : goal.loop-step-init
loop-step-init c =
    let a = c.args in
    walked_none (format_of a.f) a.steps.now a.first.now a.second.now a.held c.requires

pub loop-step-preserved : goal.loop-step-preserved
loop-step-preserved c =
    let a = c.args in
    walked_next (format_of a.f) a.steps.now a.first.now a.second.now a.held c.loop-step.invariant (omega arith) _ c.one-t.result (add-one c.loop-step.step-index)
    c.one-t.ensures c.one-t.auto.first c.one-t.auto.second

pub returns : goal.returns
returns c =
    let a = c.args in
    followed (format_of a.f) a.steps.now a.first.now a.second.now a.held c.loop-step.invariant (omega arith)
