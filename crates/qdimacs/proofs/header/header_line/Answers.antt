-- `qdimacs::header::header_line` meets its contract.
use Rattle.std.proofs.Common.{arith, sym, ◌∙◌, subst}
use Rattle.qdimacs.proofs.HeaderLines.{Sought, sought_none, line_inside, line_clean, sought_found, next-onward, sought_more, sought_all}
use Rattle.qdimacs.proofs.header.header_line.Goals as goal

pub loop-at-init : goal.loop-at-init
loop-at-init c = sought_none _

pub slice_bounds-is_skipped-end : goal.slice_bounds-is_skipped-end
slice_bounds-is_skipped-end c = line_inside c.args.text.now c.loop-at.invariant c.end_of-to.ensures

pub is_skipped-requires : goal.is_skipped-requires
is_skipped-requires c = line_clean c.args.text.now c.loop-at.invariant c.end_of-to.ensures

pub returns-then-not-is_skipped : goal.returns-then-not-is_skipped
returns-then-not-is_skipped c = sought_found c.args.text.now c.loop-at.invariant c.end_of-to.ensures (sym c.is_skipped.ensures ∙ c.if-not-is_skipped.true)

pub loop-at-smaller : goal.loop-at-smaller
loop-at-smaller c = omega (arith, c.next_line-at.ensures, next-onward c.args.text.now c.loop-at.invariant.inside c.end_of-to.ensures (omega arith))

pub loop-at-preserved : goal.loop-at-preserved
loop-at-preserved c =
    subst (Sought c.args.text.now) (sym c.next_line-at.ensures)
    (sought_more c.args.text.now c.loop-at.invariant c.end_of-to.ensures (omega arith) (sym c.is_skipped.ensures ∙ c.if-not-is_skipped.false))

pub returns : goal.returns
returns c = sought_all c.args.text.now c.loop-at.invariant (omega arith)
