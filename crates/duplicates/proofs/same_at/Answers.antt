-- `duplicates::same_at` meets its contract: a row that differs, or the end, decides.
use Rattle.std.proofs.Common.{sym, ◌∙◌, ◌<◌, arith}
use borrow.Author.Tests.{not-true, not-false}
use Rattle.duplicates.proofs.Comparing.{inside, few_left, compare_start, compare_differ, compare-on, compare_done}
use Rattle.duplicates.proofs.same_at.Goals.{In-loop-left}
use Rattle.duplicates.proofs.same_at.Goals as goal

-- both rows are there
at_row : (c : In-loop-left) → (c.loop-left.at < c.args.s.nodes) × (c.loop-left.other < c.args.s.nodes)
at_row c =
    let l = c.loop-left in (
      inside c.args.b.now c.requires.0 l.at c.loop-left-test.true l.invariant.few,
      inside c.args.b.now c.requires.0 l.other c.loop-left-test.true l.invariant.few_other,
    )

pub loop-left-init : goal.loop-left-init
loop-left-init c = compare_start c.args.b.now c.requires.0 c.requires.1 c.requires.2

pub differ-requires : goal.differ-requires
differ-requires c = (c.requires.0, (at_row (goal.at.differ-requires c).In-loop-left).0, (at_row (goal.at.differ-requires c).In-loop-left).1)

pub returns-then-differ : goal.returns-then-differ
returns-then-differ c =
    sym (compare_differ c.args.b.now c.requires.0 c.loop-left-test.true c.loop-left.invariant (not-true _ (sym c.differ.ensures ∙ c.if-differ.true)))

pub children_at-requires : goal.children_at-requires
children_at-requires c = (c.requires.0, (at_row (goal.at.children_at-requires c).In-loop-left).0)

pub overflow_add-left : goal.overflow_add-left
overflow_add-left c =
    omega (arith, few_left c.args.b.now c.requires.0 c.loop-left.at c.loop-left.invariant.few, c.requires.0.few_nodes, c.children_at.ensures.1)

pub overflow_add-at : goal.overflow_add-at
overflow_add-at c = omega (arith, (at_row (goal.at.overflow_add-at c).In-loop-left).0, c.requires.0.few_nodes)

pub overflow_add-other : goal.overflow_add-other
overflow_add-other c = omega (arith, (at_row (goal.at.overflow_add-other c).In-loop-left).1, c.requires.0.few_nodes)

pub loop-left-smaller : goal.loop-left-smaller
loop-left-smaller c = omega (arith, (at_row (goal.at.loop-left-smaller c).In-loop-left).0)

pub loop-left-preserved : goal.loop-left-preserved
loop-left-preserved c =
    compare-on c.args.b.now c.requires.0 c.loop-left-test.true c.loop-left.invariant (not-false _ (sym c.differ.ensures ∙ c.if-differ.false))
    (omega arith) (omega arith) (omega (arith, c.children_at.ensures.0))

pub returns : goal.returns
returns c = sym (compare_done c.args.b.now c.requires.0 c.loop-left-test.false c.loop-left.invariant)
