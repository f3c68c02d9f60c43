-- `reduce::clauses::goes_at` meets its contract. Assumes nothing.
use Rattle.reduce.proofs.Table.{existential-stays, universal-goes}
use Rattle.reduce.proofs.clauses.goes_at.Goals as goal

pub returns-then-is_existential : goal.returns-then-is_existential
returns-then-is_existential c =
    existential-stays c.args.b.now c.requires.0 c.requires.1 c.place_at-i.ensures.0 c.is_existential.ensures c.args.last
    c.if-is_existential.true

pub returns : goal.returns
returns c =
    universal-goes c.args.b.now c.requires.0 c.requires.1 c.place_at-i.ensures.0 c.is_existential.ensures c.args.last
    c.if-is_existential.false
