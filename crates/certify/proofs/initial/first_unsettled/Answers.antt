-- The goals of `certify::initial::first_unsettled`. Assumes nothing.
use Rattle.std.proofs.Common.{ap, map}
use Rattle.sheet.specs.Certificates.{literal_of, step_constraint}
use Rattle.rows.specs.Formulas.{matrix_in}
use Rattle.resolution.specs.Steps.{constraint_in}
use Rattle.certify.proofs.Settling.{settled_start, settled_on, settled_found}
use Rattle.certify.proofs.initial.first_unsettled.Goals as goal

pub loop-k-init : goal.loop-k-init
loop-k-init c =
    let a = c.args in
    settled_start a.q.verdict (matrix_in a.q.layout a.sheet.now) a.heads.now a.codes.now a.q.steps c.next_initial-k.result c.next_initial-k.ensures

pub returns-then-not-settles : goal.returns-then-not-settles
unfolding step_constraint
returns-then-not-settles c =
    let a = c.args in
    settled_found a.q.verdict (matrix_in a.q.layout a.sheet.now) a.heads.now a.codes.now a.q.steps c.loop-k.k c.loop-k-test.true c.loop-k.invariant
    c.settles.result (constraint_in c.part_of-p.result a.codes.now) (ap (map literal_of) c.part_of-p.ensures.words_are) c.settles.ensures
    c.if-not-settles.true

pub loop-k-preserved : goal.loop-k-preserved
unfolding step_constraint
loop-k-preserved c =
    let a = c.args in
    settled_on a.q.verdict (matrix_in a.q.layout a.sheet.now) a.heads.now a.codes.now a.q.steps c.loop-k.k c.loop-k-test.true c.loop-k.invariant
    c.settles.result (constraint_in c.part_of-p.result a.codes.now) (ap (map literal_of) c.part_of-p.ensures.words_are) c.settles.ensures
    c.if-not-settles.false c.next_initial-k-in-loop-k.result c.next_initial-k-in-loop-k.ensures
