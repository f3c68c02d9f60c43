-- `tidying::operator::hollow` meets its contract: the table's entry is that of an operator without children.
use Rattle.std.proofs.Common.{◌≡◌, ap, ◌∙◌, set, arith}
use Rattle.buckets.specs.Halves.{known_of}
use Rattle.tidying.proofs.Conclude.{hollows_short, hollows_long}
use Rattle.tidying.proofs.operator.hollow.Goals as goal
use Rattle.tidying.proofs.operator.hollow.Goals.{After-known_of}

entry_is : (c : After-known_of) → set c.args.known.now c.args.r c.known_of.result ≡ set c.args.known.now c.args.r (known_of 0 c.args.kind)
entry_is c = ap (set c.args.known.now c.args.r) (c.known_of.ensures.0 ∙ ap (known_of 0) c.from.ensures)

pub returns-then-r-end-clause-hollows : goal.returns-then-r-end-clause-hollows
returns-then-r-end-clause-hollows c =
    hollows_long c.args.known.now c.set_row.ensures.b_after (entry_is (goal.at.returns-then-r-end-clause-hollows c).After-known_of) (omega arith)
    c.set_row-then-r-end.ensures.b_after c.if-r-end.true

pub returns-else-r-end-clause-hollows : goal.returns-else-r-end-clause-hollows
returns-else-r-end-clause-hollows c =
    hollows_short c.args.known.now c.set_row.ensures.b_after (entry_is (goal.at.returns-else-r-end-clause-hollows c).After-known_of) (omega arith) c.if-r-end.false
