-- `tree_order::merging::takes_left` meets its contract.
use Rattle.std.proofs.Common.{ap₂, ◌∙◌, arith}
use Rattle.formula.specs.Order.{leads}
use Rattle.sheet.specs.Sheet.{root}
use Rattle.tree_order.specs.Tables.{standing}
use Rattle.tree_order.proofs.MergeTurn.{starts-within, left_alone, left_compared, suffix}
use Rattle.tree_order.proofs.merging.takes_left.Goals as goal

pub returns-then-m-eq0 : goal.returns-then-m-eq0
returns-then-m-eq0 c = left_alone c.requires.0 c.args.at.now c.args.m c.requires.1 c.requires.2 c.if-m-eq0.true

pub offset_bounds-at-m : goal.offset_bounds-at-m
offset_bounds-at-m c = omega (arith, starts-within c.requires.0 c.args.at.now c.args.m.left c.requires.2 c.requires.1.left_stands)

pub slice_bounds-in_order-count : goal.slice_bounds-in_order-count
slice_bounds-in_order-count c = omega (arith, starts-within c.requires.0 c.args.at.now c.args.m.left c.requires.2 c.requires.1.left_stands)

pub slice_bounds-in_order-start : goal.slice_bounds-in_order-start
slice_bounds-in_order-start c = omega (arith, starts-within c.requires.0 c.args.at.now c.args.m.left c.requires.2 c.requires.1.left_stands)

pub returns : goal.returns
returns c =
    let a = c.args in
    left_compared c.requires.0 a.at.now a.m c.requires.1 c.requires.2 (omega arith)
    (c.in_order.ensures ∙
    ap₂ (λ x y. leads (root (standing a.s a.b.now x)) (root (standing a.s a.b.now y)))
    (suffix a.at.now a.m.left) (suffix a.at.now a.m.right))
