-- The goals of `clauses::names::fill_unused`. Assumes nothing.
use native.Mathlib.Numerals.{add-one}
use Rattle.clauses.proofs.Naming.{giving-on}
use Rattle.clauses.proofs.names.fill_unused.Goals as goal

pub loop-i-preserved : goal.loop-i-preserved
loop-i-preserved c =
    let a = c.args in
    giving-on a.used.now a.highest a.count a.fresh.now c.requires.3 c.requires.2 c.loop-i.invariant c.loop-i-test.true c.next_unused-n.ensures
    (add-one c.next_unused-n.result) (add-one c.loop-i.i)
