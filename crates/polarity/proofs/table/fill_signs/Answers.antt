-- `polarity::table::fill_signs` meets its contract.
use Rattle.std.proofs.Common.{arith, rules}
use Rattle.polarity.proofs.Marks.{marking_on, marking_done, marked-both, signs_row, signs_root, signs_end, left-on, left-fits, signs_filled}
use Rattle.polarity.proofs.table.fill_signs.Goals as goal

pub overflow_add-left : goal.overflow_add-left
overflow_add-left c =
    let l = c.loop-i in
    omega (arith, left-fits c.args.b.now c.requires.0 l.i c.loop-i-test.true c.mark_row-children.ensures.value l.invariant.0)

pub loop-i-preserved : goal.loop-i-preserved
loop-i-preserved c =
    let l = c.loop-i in
    let b = c.args.b.now in
    let inside = c.loop-i-test.true in
    let children = c.mark_row-children.ensures.value in (
      left-on b c.requires.0 l.i inside children l.invariant.0 (omega arith) (omega arith),
      marking_on l.invariant.1 c.mark_row-children.ensures.marked (signs_row b c.requires.0 l.i l.left inside (omega arith) children (omega arith)),
    )

pub returns : goal.returns
returns c =
    let l = c.loop-i in
    signs_filled c.requires.1 c.requires.2
    (marked-both c.mark_row.ensures.marked (marking_done l.invariant.1 (signs_end c.args.b.now c.requires.0 l.i l.left (search rules)))
    (signs_root c.args.b.now c.requires.0))
