-- `resolution::following::covers` meets its contract.
use Rattle.std.proofs.Common.{not, ap}
use Rattle.resolution.specs.Codes.{some_in, uncovered}
use Rattle.resolution.proofs.Covering.{seek_found, seek_on, seek-none}
use Rattle.resolution.proofs.following.covers.Goals as goal

pub returns-then-not-passes : goal.returns-then-not-passes
returns-then-not-passes c =
    let a = c.args in
    let P = uncovered a.other.now a.derived.now a.all.now a.last in
    seek_found a.p.skip a.codes.now a.p.to P (some_in a.p a.codes.now P) c.loop-i.i _ c.passes.result
    c.loop-i-test.true c.requires.1 c.code_at.ensures.0 c.passes.ensures c.loop-i.invariant (ap not c.if-not-passes.true)

pub loop-i-preserved : goal.loop-i-preserved
loop-i-preserved c =
    let a = c.args in
    let P = uncovered a.other.now a.derived.now a.all.now a.last in
    seek_on a.p.skip a.codes.now a.p.to P (some_in a.p a.codes.now P) c.loop-i.i _ c.passes.result
    c.loop-i-test.true c.requires.1 c.code_at.ensures.0 c.passes.ensures c.loop-i.invariant (ap not c.if-not-passes.false)

pub returns : goal.returns
returns c =
    let a = c.args in
    let P = uncovered a.other.now a.derived.now a.all.now a.last in
    seek-none a.p.skip a.codes.now a.p.to P (some_in a.p a.codes.now P) c.loop-i.i c.loop-i-test.false c.loop-i.invariant
