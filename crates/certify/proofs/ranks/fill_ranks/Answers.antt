-- The goals of `certify::ranks::fill_ranks`. Assumes nothing.
use Rattle.std.proofs.Common.{arith, ◌-◌, ◌<◌}
use Rattle.rows.specs.Formulas.{prefix_in}
use Rattle.rows.proofs.Formulas.{length_prefix}
use Rattle.prefixes.specs.Places.{binding_in}
use Rattle.certify.specs.Inner.Ranking.{quantifier_for}
use Rattle.certify.proofs.Ranking.{counts_for, ranking_none, ranking_row}
use Rattle.certify.proofs.ranks.fill_ranks.Goals as goal

pub loop-i-init : goal.loop-i-init
loop-i-init c =
    let a = c.args in
    ranking_none (quantifier_for a.existential) (prefix_in a.s a.sheet.now) a.ranks.now a.s.variables c.requires.2
    (omega (arith, length_prefix a.sheet.now c.requires.0))

pub loop-i-preserved : goal.loop-i-preserved
loop-i-preserved c =
    let a = c.args in
    let b = a.sheet.now in
    let k = c.loop-i.i in
    let i = k - 1 in
    let inside : i < a.s.variables = omega (arith, c.loop-i-test.true, c.loop-i.auto.i) in
    let bound = c.requires.1 i inside in
    ranking_row (quantifier_for a.existential) (prefix_in a.s b) i k c.bound_at-x.result c.rank_of.result _ c.loop-i.ranks
    (omega (arith, inside, length_prefix b c.requires.0)) (omega (arith, c.loop-i-test.true)) c.bound_at-x.ensures.0
    (omega (arith, c.bound_at-x.ensures.0, bound))
    (counts_for a.existential c.is_existential.result (binding_in a.s b i).quantifier c.is_existential.ensures)
    c.rank_of.ensures c.loop-i.invariant
