-- `tidying::tidy_into` meets its contract.
use Rattle.tidying.proofs.Raw.{copied-raw, copied_output, copied-sizes}
use Rattle.tidying.proofs.tidy_into.Goals as goal

pub tidy_in_place-requires : goal.tidy_in_place-requires
tidy_in_place-requires c = copied-raw c.requires.0 c.args.out.now c.requires.1 c.copy_front.ensures

pub returns-clause-out_after : goal.returns-clause-out_after
returns-clause-out_after c = copied_output c.requires.0 c.args.out.now c.requires.1 c.copy_front.ensures c.tidy_in_place.ensures.b_after

pub returns-clause-value : goal.returns-clause-value
returns-clause-value c = copied-sizes c.requires.0 c.args.out.now c.requires.1 c.copy_front.ensures c.tidy_in_place.ensures.value
