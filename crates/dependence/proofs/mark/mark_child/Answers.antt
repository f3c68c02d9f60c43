-- `dependence::mark::mark_child` meets its contract: by whether the next literal is within.
use Rattle.dependence.proofs.Marks.{child_marked, child_unmarked}
use Rattle.dependence.proofs.mark.mark_child.Goals as goal

pub returns-then-row-end : goal.returns-then-row-end
returns-then-row-end c =
    child_marked c.args.s c.args.b.now c.args.at c.args.end c.args.row c.if-row-end.true c.mark_rows.ensures

pub returns-else-row-end : goal.returns-else-row-end
returns-else-row-end c = child_unmarked c.args.s c.args.b.now c.args.at c.args.end c.args.row c.if-row-end.false
