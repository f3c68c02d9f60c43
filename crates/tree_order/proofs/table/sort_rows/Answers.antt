-- `tree_order::table::sort_rows` meets its contract.
use Rattle.rows.proofs.Formulas.{length-nodes}
use Rattle.tree_order.proofs.Entries.{rows-picked_tree, numbers_tree}
use Rattle.tree_order.proofs.table.sort_rows.Goals as goal

pub returns-clause-at_after : goal.returns-clause-at_after
returns-clause-at_after c = rows-picked_tree c.args.s c.args.b.now _ c.fill_sorted.new.at _ c.fill_sorted.ensures

pub returns-clause-numbers : goal.returns-clause-numbers
returns-clause-numbers c =
    numbers_tree c.args.s c.args.b.now _ c.fill_sorted.new.at _ (length-nodes c.args.b.now c.requires.0) c.fill_sorted.ensures
