-- `tidying::pack::argument_told` meets its contract.
use Rattle.std.proofs.Common.{ap, ◌∙◌}
use Rattle.rows.specs.Layouts.{rows_in}
use Rattle.buckets.specs.Halves.{children_of}
use Rattle.tidying.proofs.Packed.{told_literal, told_operator}
use Rattle.tidying.proofs.pack.argument_told.Goals as goal

pub returns-then-kind_at-le-NEGATIVE : goal.returns-then-kind_at-le-NEGATIVE
returns-then-kind_at-le-NEGATIVE c =
    told_literal (rows_in c.args.s c.args.b.now) c.kind_at.ensures c.args.known.now c.if-kind_at-le-NEGATIVE.true c.argument_at.ensures.0

pub returns : goal.returns
returns c =
    told_operator (rows_in c.args.s c.args.b.now) c.kind_at.ensures c.args.known.now c.if-kind_at-le-NEGATIVE.false
    (c.children_of.ensures ∙ ap children_of c.large.ensures.0)
