-- `relevance::subtree::relevant_at` meets its contract.
use Rattle.std.proofs.Common.{◌+◌, ◌≤◌, arith}
use Rattle.subtrees.specs.Subtrees.{subtree_in}
use Rattle.subtrees.proofs.Siblings.{end_subtree}
use Rattle.relevance.proofs.TurnSubtree.{site_inside, kept-within}
use Rattle.relevance.proofs.Growth.{operator_part_read}
use Rattle.relevance.proofs.subtree.relevant_at.Goals as goal
use Rattle.relevance.proofs.subtree.relevant_at.Goals.{After-relevant_children-share}

within : (c : After-relevant_children-share) → c.args.site.operator + (1 + c.relevant_children-share.result.rows) ≤ c.args.s.nodes
within c =
    let k = c.requires.chained in
    kept-within k.chosen c.args.b.now k.indexed.readable c.args.site.operator (site_inside c.args.b.now c.requires)
    (c.relevant_children-share.ensures k.chosen c.requires.last k.chain).0

pub overflow_add-rows : goal.overflow_add-rows
overflow_add-rows c = omega (arith, within (goal.at.overflow_add-rows c).After-relevant_children-share, c.requires.chained.indexed.readable.few_nodes)

pub overflow_add-result : goal.overflow_add-result
overflow_add-result c = omega (arith, within (goal.at.overflow_add-result c).After-relevant_children-share, c.requires.chained.indexed.readable.few_nodes)

pub returns : goal.returns
returns c =
    let i = c.requires.chained.indexed in
    let at = c.args.site.operator in
    λ L last k.
    let share = c.relevant_children-share.ensures L last k in
    operator_part_read L at (subtree_in c.args.s c.args.b.now at) share.0 share.1
    (end_subtree c.args.b.now i.readable c.args.ends.now i at (site_inside c.args.b.now c.requires))
