-- `outer::outer_planned` meets its contract: 13, and what is written.
use Rattle.outer.proofs.Sheets.{few_raw, no_room, fitting, copied-call}
use Rattle.outer.proofs.outer_planned.Goals as goal

pub fits-requires : goal.fits-requires
fits-requires c = few_raw c.requires

pub returns-then-not-fits : goal.returns-then-not-fits
returns-then-not-fits c = no_room c.requires c.args.out.now c.fits.ensures c.if-not-fits.true

pub outer_into-requires : goal.outer_into-requires
outer_into-requires c = fitting c.requires c.args.out.now c.fits.ensures c.if-not-fits.false

pub returns : goal.returns
returns c =
    copied-call c.requires c.args.out.now c.fits.ensures c.if-not-fits.false c.outer_into.ensures.value c.outer_into.ensures.out_after
