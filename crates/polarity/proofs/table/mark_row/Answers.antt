-- `polarity::table::mark_row` meets its contract: by the row's kind and argument.
use Rattle.std.proofs.Common.{arith}
use Rattle.subtrees.specs.Subtrees.{subtree_in}
use Rattle.polarity.proofs.Marks.{row_operator, row-literal}
use Rattle.polarity.proofs.table.mark_row.Goals as goal

pub returns-then-kind-gt-NEGATIVE-clause-marked : goal.returns-then-kind-gt-NEGATIVE-clause-marked
returns-then-kind-gt-NEGATIVE-clause-marked c =
    let t = subtree_in c.args.s c.args.b.now c.args.i in
    (row_operator t (omega (arith, c.kind_at-kind.ensures)) c.argument_at-argument.ensures.0).0

pub returns : goal.returns
returns c =
    let row = row-literal (subtree_in c.args.s c.args.b.now c.args.i) c.kind_at-kind.ensures (omega arith) c.argument_at-argument.ensures.0 c.mark.ensures in
    record { marked = row.0; value = row.1 }
