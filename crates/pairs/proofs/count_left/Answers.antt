-- `pairs::count_left` meets its contract.
use Rattle.std.proofs.Common.{◌≡◌, suc, ◌-◌, ap, ◌∙◌, length, drop, arith}
use Rattle.formula.specs.Strategy.{winner, left}
use Rattle.rows.specs.Formulas.{prefix_in}
use Rattle.pairs.proofs.Leaving.{none_counted, counted_next}
use Rattle.pairs.proofs.count_left.Goals as goal

pub loop-i-init : goal.loop-i-init
loop-i-init c =
    let a = c.args in
    (omega arith, none_counted (winner a.exists) a.s a.b.now c.requires)

pub loop-i-preserved : goal.loop-i-preserved
loop-i-preserved c =
    let a = c.args in
    let l = c.loop-i in
    let back : l.i ≡ suc (l.i - 1) = omega arith in (
      omega (arith, c.one_if_left-n.ensures.1, l.invariant.0),
      counted_next (winner a.exists) a.s a.b.now c.requires (omega arith)
          (l.invariant.1 ∙ ap (λ k. length (left (winner a.exists) (drop k (prefix_in a.s a.b.now)))) back) c.one_if_left-n.ensures.0,
    )
