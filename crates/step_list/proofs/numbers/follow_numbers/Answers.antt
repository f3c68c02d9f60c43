-- `step_list::numbers::follow_numbers` meets its contract: a part is 64 records or the rest, and all of them are there.
-- Assumes nothing.
use Rattle.std.proofs.Common.{◌≡◌, ◌∙◌, ◌≤◌, ◌<◌, ◌+◌, ap₂, min, arith}
use Rattle.std.proofs.lemmas.Result.{err_from_is_err_and}
use Rattle.rows.specs.Formats.{format_of}
use Rattle.rows.proofs.Limits.{sound}
use Rattle.step_list.specs.Numbers.{record_count}
use Rattle.step_list.proofs.Arrays.{turned_none, turned-part}
use Rattle.step_list.proofs.Numbering.{refused-whole, accepted-whole, says_truth}
use Rattle.step_list.proofs.numbers.follow_numbers.Goals as goal
use Rattle.step_list.proofs.numbers.follow_numbers.Goals.{After-shorter-count}

counted : (c : After-shorter-count)
    → c.shorter-count.result ≡ record_count c.args.operations.now c.args.variables.now c.args.numbers.now c.args.values.now
counted c = c.shorter-count.ensures ∙ ap₂ (λ p q. min p q) c.shorter.ensures c.shorter-2.ensures

pub returns-in_err-begin-clause-second_value : goal.returns-in_err-begin-clause-second_value
returns-in_err-begin-clause-second_value c =
    let a = c.args in
    let p = err_from_is_err_and c.from_residual.result c.from_residual.ensures.1 in
    let e = c.in_err-begin.ensures in
    rw (p.1, p.2, e.1)
    (refused-whole (format_of a.f) a.sheet.now a.operations.now a.variables.now a.numbers.now a.values.now a.first.now a.second.now e.0)

pub returns-in_err-begin-clause-truthful_steps : goal.returns-in_err-begin-clause-truthful_steps
returns-in_err-begin-clause-truthful_steps c =
    let a = c.args in
    says_truth (format_of a.f) a.sheet.now a.operations.now a.variables.now a.numbers.now a.values.now a.first.now a.second.now
    (sound a.f) _ _ (returns-in_err-begin-clause-second_value c)

pub loop-at-init : goal.loop-at-init
loop-at-init c =
    let a = c.args in
    let begun = c.in_ok-begin.ensures in (
      omega arith,
      turned_none (format_of a.f) a.operations.now a.variables.now a.numbers.now a.values.now _ _ _ (omega (arith, begun.1, begun.3)),
    )

pub loop-at-preserved : goal.loop-at-preserved
loop-at-preserved c =
    let a = c.args in
    let more = c.loop-at-test.true in
    let n = c.shorter-n.ensures in
    let p = c.follow_part-p in
    let all = counted (goal.at.loop-at-preserved c).After-shorter-count in (
      omega (arith, more, n),
      turned-part (format_of a.f) a.operations.now a.variables.now a.numbers.now a.values.now _ _ _ c.loop-at.invariant.1
          (omega (arith, more, n)) (omega (arith, n)) (omega (arith, more, n, all)) _ c.load-steps.ensures p.ensures p.auto.first p.auto.second c.store.ensures,
    )

pub returns-clause-second_value : goal.returns-clause-second_value
returns-clause-second_value c =
    let a = c.args in
    let begun = c.in_ok-begin.ensures in
    let all = counted (goal.at.returns-clause-second_value c).After-shorter-count in
    accepted-whole (format_of a.f) a.sheet.now a.operations.now a.variables.now a.numbers.now a.values.now a.first.now a.second.now
    begun.0 _ begun.3 begun.2 c.loop-at.invariant.1 (omega (arith, c.loop-at.invariant.0, c.loop-at-test.false, all)) c.clear.ensures c.clear-2.ensures

pub returns-clause-truthful_steps : goal.returns-clause-truthful_steps
returns-clause-truthful_steps c =
    let a = c.args in
    says_truth (format_of a.f) a.sheet.now a.operations.now a.variables.now a.numbers.now a.values.now a.first.now a.second.now
    (sound a.f) _ _ (returns-clause-second_value c)
