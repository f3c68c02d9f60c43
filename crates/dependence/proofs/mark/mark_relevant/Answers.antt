-- `dependence::mark::mark_relevant` meets its contract: the relevant subtree is the one literal or has the operator's relevant children.
use Rattle.std.proofs.Common.{sym, ap}
use Rattle.formula.specs.Tree.{of}
use Rattle.subtrees.specs.declared.relevant.Relevant.{Relevant}
use Rattle.relevance.proofs.Descent.{found_before}
use Rattle.dependence.proofs.Marks.{marked_as}
use Rattle.dependence.proofs.Within.{within-literal, within_operator}
use Rattle.dependence.proofs.mark.mark_relevant.Goals as goal

pub returns-then-operator-range : goal.returns-then-operator-range
returns-then-operator-range c =
    λ L k.
    let at = ap (λ (p : Relevant). p.operator) (c.relevant_subtree-operator.ensures L k) in
    marked_as c.mark_row.ensures
    (λ v h. sym
    (within-literal L (of v) c.args.b.now c.requires.0.indexed.readable c.args.range k.bounds at c.if-operator-range.true))

pub mark_children-requires : goal.mark_children-requires
mark_children-requires c =
    let k = c.requires.0.chain in
    let at = ap (λ (p : Relevant). p.operator) (c.relevant_subtree-operator.ensures c.requires.0.chosen k) in (
      record {
        last = c.args.range.last;
        chained = c.requires.0;
        before = found_before c.requires.0.chosen c.args.b.now c.requires.0.indexed.readable c.args.range k.bounds at c.if-operator-range.false;
      },
      c.requires.1,
    )

pub returns-else-operator-range : goal.returns-else-operator-range
returns-else-operator-range c =
    λ L k.
    let at = ap (λ (p : Relevant). p.operator) (c.relevant_subtree-operator.ensures L k) in
    marked_as (c.mark_children.ensures L c.args.range.last k)
    (λ v h. sym
    (within_operator L (of v) c.args.b.now c.requires.0.indexed.readable c.args.range k.bounds at c.if-operator-range.false))
