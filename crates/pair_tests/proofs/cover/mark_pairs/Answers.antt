-- `pair_tests::cover::mark_pairs` meets its contract.
use Rattle.std.proofs.Common.{◌-◌, sym, ap, ◌∙◌, arith}
use Rattle.formula.specs.Strategy.{owns}
use Rattle.rows.specs.Formulas.{prefix_in}
use Rattle.pair_tests.specs.Pairs.{side, pairs_in}
use Rattle.pair_tests.proofs.Stands.{counted, cut_behind, opened, literal-bound, literal-variable, literal-few}
use Rattle.pair_tests.proofs.Marking.{marking_none, not-owned, met-twice, marking_on}
use Rattle.pair_tests.proofs.cover.mark_pairs.Goals as goal
use Rattle.pair_tests.proofs.cover.mark_pairs.Goals.{then-not-is_own-via-then-not-is_own, then-not-is_own-via-else-not-is_own+then-seen-x}

pub overflow_step-j : goal.overflow_step-j
overflow_step-j c = omega (arith, counted c.args.b.now c.requires.1)

pub loop-j-init : goal.loop-j-init
loop-j-init c =
    let a = c.args in
    marking_none (side a.exists) (prefix_in a.s a.b.now) (pairs_in a.s a.b.now) (omega (arith, counted a.b.now c.requires.1)) c.requires.2 c.requires.3

pub argument_at-x-requires : goal.argument_at-x-requires
argument_at-x-requires c =
    let b = c.args.b.now in
    let here = cut_behind b c.requires.1 c.loop-j-test.true c.loop-j.invariant.within in
    (c.requires.1.readable.room, (literal-bound b c.requires.1 (c.loop-j.j - 1) here (omega arith)).inside)

pub is_own-requires : goal.is_own-requires
is_own-requires c =
    let b = c.args.b.now in
    let here = cut_behind b c.requires.1 c.loop-j-test.true c.loop-j.invariant.within in
    (c.requires.0, literal-bound b c.requires.1 (c.loop-j.j - 1) here (omega arith))

pub bounds-seen-x : goal.bounds-seen-x
bounds-seen-x c =
    let b = c.args.b.now in
    let here = cut_behind b c.requires.1 c.loop-j-test.true c.loop-j.invariant.within in
    omega (arith, literal-few b c.requires.1 (c.loop-j.j - 1) here c.requires.0.numbered c.argument_at-x.ensures.0 (omega arith))

pub returns-then-not-is_own-clause-value : goal.returns-then-not-is_own-clause-value
returns-then-not-is_own-clause-value c =
    let a = c.args in
    let l = c.loop-j in
    let q = side a.exists in
    let p = prefix_in a.s a.b.now in
    let g = pairs_in a.s a.b.now in
    let x = c.argument_at-x.ensures.0 in
    let here = cut_behind a.b.now c.requires.1 c.loop-j-test.true l.invariant.within in
    let split = opened a.b.now c.requires.1 (l.j - 1) here in
    let is = literal-variable a.b.now c.requires.1 (l.j - 1) here (omega arith) x in
    elim c.then-not-is_own.branch [
      | then-not-is_own-via-then-not-is_own w ↦
          not-owned q p g l.invariant (omega arith) split is (ap (owns q p) x ∙ sym c.is_own.ensures ∙ w.if-not-is_own.true)
      | then-not-is_own-via-else-not-is_own+then-seen-x w ↦ met-twice q p g l.invariant (omega arith) split is w.if-seen-x.true
    ]

pub bounds-seen-x-in-loop-j : goal.bounds-seen-x-in-loop-j
bounds-seen-x-in-loop-j c =
    let b = c.args.b.now in
    let here = cut_behind b c.requires.1 c.loop-j-test.true c.loop-j.invariant.within in
    omega (arith, literal-few b c.requires.1 (c.loop-j.j - 1) here c.requires.0.numbered c.argument_at-x.ensures.0 (omega arith))

pub loop-j-preserved : goal.loop-j-preserved
loop-j-preserved c =
    let a = c.args in
    let l = c.loop-j in
    let q = side a.exists in
    let p = prefix_in a.s a.b.now in
    let x = c.argument_at-x.ensures.0 in
    let here = cut_behind a.b.now c.requires.1 c.loop-j-test.true l.invariant.within in
    marking_on q p (pairs_in a.s a.b.now) l.invariant (omega arith)
    (opened a.b.now c.requires.1 (l.j - 1) here) (literal-variable a.b.now c.requires.1 (l.j - 1) here (omega arith) x)
    (ap (owns q p) x ∙ sym c.is_own.ensures ∙ c.if-not-is_own.false) c.if-seen-x.false
    (literal-few a.b.now c.requires.1 (l.j - 1) here c.requires.0.numbered x (omega arith))
