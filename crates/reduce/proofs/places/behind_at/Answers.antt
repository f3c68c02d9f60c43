-- `reduce::places::behind_at` meets its contract. Assumes nothing.
use Rattle.reduce.proofs.Table.{behind-existential, behind-universal}
use Rattle.reduce.proofs.places.behind_at.Goals as goal

pub returns-then-is_existential : goal.returns-then-is_existential
returns-then-is_existential c =
    behind-existential c.args.b.now c.requires.0 c.requires.1 c.place_at-i.ensures.0 c.is_existential.ensures c.if-is_existential.true

pub returns : goal.returns
returns c =
    behind-universal c.args.b.now c.requires.0 c.requires.1 c.place_at-i.ensures.0 c.is_existential.ensures c.if-is_existential.false
