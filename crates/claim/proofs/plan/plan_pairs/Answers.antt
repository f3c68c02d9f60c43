-- `claim::plan::plan_pairs` meets its contract: 26 and 27 in this order.
use Rattle.std.proofs.Common.{refl, ap, arith}
use Rattle.formula.specs.Tree.{rows}
use Rattle.rows.specs.Formulas.{prefix_in}
use Rattle.rows.proofs.Formulas.{rows-nodes}
use Rattle.pair_tests.specs.Pairs.{side, pairs_in}
use Rattle.pair_tests.proofs.Stands.{counted}
use Rattle.claim.proofs.Deciding.{fault_few, pairs_uncovered, pairs_fault, pairs_pass}
use Rattle.claim.proofs.plan.plan_pairs.Goals as goal

pub returns-then-not-covers : goal.returns-then-not-covers
returns-then-not-covers c = pairs_uncovered c.args.s c.args.b.now c.args.exists c.covers.ensures c.if-not-covers.true

pub overflow_add-result : goal.overflow_add-result
overflow_add-result c =
    let a = c.args in
    let k = c.requires.1 in
    omega (
      arith,
      fault_few (side a.exists) (prefix_in a.s a.b.now) (pairs_in a.s a.b.now) c.in-Some.ensures.1,
      ap rows k.is_matrix,
      rows-nodes a.b.now k.readable,
      k.readable.few_nodes,
      k.readable.few_variables,
    )

pub returns-in-Some : goal.returns-in-Some
returns-in-Some c =
    let some = c.in-Some.ensures in
    pairs_fault c.args.s c.args.b.now c.args.exists c.covers.ensures c.if-not-covers.false some.1 (omega (arith, some)) refl

pub overflow_sub-result : goal.overflow_sub-result
overflow_sub-result c = omega (arith, counted c.args.b.now c.requires.1)

pub returns : goal.returns
returns c =
    pairs_pass c.args.s c.args.b.now c.args.exists c.requires.1 c.covers.ensures c.if-not-covers.false refl (omega (arith, c.in_default.ensures)) refl
