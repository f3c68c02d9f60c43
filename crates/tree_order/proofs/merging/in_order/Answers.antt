-- `tree_order::merging::in_order` meets its contract.
use Rattle.std.proofs.Common.{◌∙◌, arith}
use Rattle.tree_order.proofs.MergeTurn.{first-sized, first_counted, first-numbers, first_compared}
use Rattle.tree_order.proofs.merging.in_order.Goals as goal

pub first_size-m-requires : goal.first_size-m-requires
first_size-m-requires c = first-sized c.requires.0 c.args.at.now (omega arith) c.requires.1

pub first_size-n-requires : goal.first_size-n-requires
first_size-n-requires c = first-sized c.requires.0 c.args.to.now (omega arith) c.requires.2

pub slice_bounds-compare_rows-end : goal.slice_bounds-compare_rows-end
slice_bounds-compare_rows-end c = first_counted c.requires.0 c.args.at.now (omega arith) c.requires.1 c.first_size-m.ensures

pub slice_bounds-compare_rows-end-2 : goal.slice_bounds-compare_rows-end-2
slice_bounds-compare_rows-end-2 c = first_counted c.requires.0 c.args.to.now (omega arith) c.requires.2 c.first_size-n.ensures

pub compare_rows-requires : goal.compare_rows-requires
compare_rows-requires c = (
  c.requires.0.readable,
  first-numbers c.requires.0 c.args.at.now (omega arith) c.requires.1 c.first_size-m.ensures,
  c.requires.0.readable,
  first-numbers c.requires.0 c.args.to.now (omega arith) c.requires.2 c.first_size-n.ensures,
)

pub returns : goal.returns
returns c =
    c.is_le.ensures ∙
    first_compared c.requires.0 c.args.at.now c.args.to.now c.requires.1 c.requires.2 c.compare_rows.result c.first_size-m.ensures
    c.first_size-n.ensures c.compare_rows.ensures
