-- `force::try_both` meets its contract: the run of 0, and if it ended, that of 1.
use Rattle.std.proofs.Common.{sym, ap, ap₂, ◌∙◌, true, min}
use Rattle.force.specs.Inner.Judging.{end_of, end_in}
use Rattle.force.proofs.Judging.{readable}
use Rattle.force.proofs.Answering.{stopped_0, stopped_1, both_ended}
use Rattle.force.proofs.try_both.Goals as goal

pub is_existential-existential-requires : goal.is_existential-existential-requires
is_existential-existential-requires c = (readable c.requires, c.requires.fewer)

pub returns-in-Stopped : goal.returns-in-Stopped
returns-in-Stopped c = stopped_0 c.requires (sym (ap end_of c.in-Stopped.is) ∙ c.judge.ensures)

-- the buffers are as long for the second run
pub returns-in-Stopped-judge : goal.returns-in-Stopped-judge
returns-in-Stopped-judge c =
    let a = c.args in
    stopped_1 c.requires (sym (ap end_of c.in-Ended.is) ∙ c.judge.ensures)
    (sym (ap end_of c.in-Stopped-judge.is) ∙ c.judge-2.ensures ∙
    ap₂ (λ n m. end_in a.s a.sheet.now a.values.now true (min n m)) c.judge.auto.first c.judge.auto.second)

pub returns : goal.returns
returns c =
    let a = c.args in
    c.outcome_for.ensures ∙
    both_ended c.requires c.is_existential-existential.ensures (sym (ap end_of c.in-Ended.is) ∙ c.judge.ensures)
    (sym (ap end_of c.in-Ended-judge.is) ∙ c.judge-2.ensures ∙
    ap₂ (λ n m. end_in a.s a.sheet.now a.values.now true (min n m)) c.judge.auto.first c.judge.auto.second) c.is_wanted.ensures c.is_wanted-2.ensures
