-- `claim::claim_planned` meets its contract.
use Rattle.std.proofs.Common.{arith}
use Rattle.checking.proofs.CheckedSheets.{sheet_readable}
use Rattle.claim.proofs.Answering.{no_place, claimable, written_call}
use Rattle.claim.proofs.claim_planned.Goals as goal

pub overflow_mul-t : goal.overflow_mul-t
overflow_mul-t c = omega (arith, (sheet_readable c.requires.second).few_nodes)

pub overflow_add-s : goal.overflow_add-s
overflow_add-s c = omega (arith, (sheet_readable c.requires.second).few_nodes, (sheet_readable c.requires.first).few_nodes)

pub overflow_sub-s : goal.overflow_sub-s
overflow_sub-s c = omega (arith, (sheet_readable c.requires.first).some_nodes)

pub fits-requires : goal.fits-requires
fits-requires c =
    let one = sheet_readable c.requires.first in
    (omega (arith, one.few_variables), omega (arith, one.few_nodes, (sheet_readable c.requires.second).few_nodes))

pub returns-then-not-fits : goal.returns-then-not-fits
returns-then-not-fits c = no_place c.requires c.args.out.now c.fits.ensures c.if-not-fits.true

pub claim_into-requires : goal.claim_into-requires
claim_into-requires c = claimable c.requires c.args.out.now c.fits.ensures c.if-not-fits.false

pub returns : goal.returns
returns c =
    written_call c.requires c.args.out.now c.fits.ensures c.if-not-fits.false c.claim_into.ensures.out_after c.claim_into.ensures.value
