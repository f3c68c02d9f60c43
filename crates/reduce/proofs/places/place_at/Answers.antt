-- `reduce::places::place_at` meets its contract.
use Rattle.std.proofs.Common.{◌∙◌, arith}
use Rattle.reduce.proofs.Table.{few_entry, entry_place, place_inside}
use Rattle.reduce.proofs.places.place_at.Goals as goal

pub bounds-places-argument_at : goal.bounds-places-argument_at
bounds-places-argument_at c = omega (arith, c.argument_at.ensures.0, few_entry c.args.b.now c.requires.0 c.requires.1)

pub returns : goal.returns
returns c =
    let is = c.from.ensures ∙ entry_place c.args.b.now c.requires.0 c.requires.1 c.argument_at.ensures.0 in
    (is, omega (arith, is, place_inside c.args.b.now c.requires.0 c.requires.1))
