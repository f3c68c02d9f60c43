-- `tree_order::table::fill_sorted` meets its contract.
use Rattle.std.proofs.Common.{arith}
use Rattle.tree_order.proofs.Filling.{filling_none, filling_end, children-stand, lent-room, filling-turn}
use Rattle.tree_order.proofs.table.fill_sorted.Goals as goal

pub loop-r-init : goal.loop-r-init
loop-r-init c = filling_none c.requires.0 c.args.at.now c.args.spare.now c.requires.1

pub arrange-requires : goal.arrange-requires
arrange-requires c = (
  c.requires.0,
  children-stand c.requires.0 (omega arith) (omega arith) c.loop-r.invariant c.children_at-children.ensures.0,
  lent-room c.requires.0 (omega arith) (omega arith) c.loop-r.invariant c.children_at-children.ensures.0 c.requires.2,
)

pub loop-r-preserved : goal.loop-r-preserved
loop-r-preserved c =
    filling-turn c.requires.0 (omega arith) (omega arith) c.loop-r.invariant c.children_at-children.ensures.0 c.arrange.new.at
    c.arrange.ensures.at_after c.arrange.auto.at c.arrange.auto.spare

pub returns : goal.returns
returns c = filling_end c.requires.0 (omega arith) c.loop-r.invariant
