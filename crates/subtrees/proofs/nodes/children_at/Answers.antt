-- `subtrees::nodes::children_at` meets its contract: a node row is the first of its subtree.
use Rattle.std.proofs.Common.{ap, ◌∙◌}
use Rattle.sheet.specs.Format.{children}
use Rattle.subtrees.specs.Subtrees.{subtree_in}
use Rattle.subtrees.proofs.Table.{children-top}
use Rattle.subtrees.proofs.Siblings.{row-top}
use Rattle.subtrees.proofs.nodes.children_at.Goals as goal

pub returns : goal.returns
returns c =
    let a = c.args in (
      c.children_at.ensures.0 ∙ ap children (row-top a.b.now c.requires.0 a.i c.requires.1) ∙ children-top (subtree_in a.s a.b.now a.i),
      c.children_at.ensures.1,
    )
