-- `relevance::subtree::relevant_subtree` meets its contract: what is relevant of the deepest operator above all literals.
use Rattle.std.proofs.Common.{◌∙◌}
use Rattle.relevance.proofs.Descent.{found-literal, found_before, found-operator}
use Rattle.relevance.proofs.subtree.relevant_subtree.Goals as goal

pub returns-then-at-range : goal.returns-then-at-range
returns-then-at-range c =
    λ L k. found-literal L c.args.b.now c.requires.indexed.readable c.args.range k.bounds (c.ancestor-at.ensures L k.bounds) c.if-at-range.true

pub relevant_at-requires : goal.relevant_at-requires
relevant_at-requires c =
    let k = c.requires.chain.bounds in
    record {
      last = c.args.range.last;
      chained = c.requires;
      before =
          found_before c.requires.chosen c.args.b.now c.requires.indexed.readable c.args.range k
          (c.ancestor-at.ensures c.requires.chosen k) c.if-at-range.false;
    }

pub returns : goal.returns
returns c =
    λ L k. c.relevant_at.ensures L c.args.range.last k ∙
    found-operator L c.args.b.now c.requires.indexed.readable c.args.range k.bounds (c.ancestor-at.ensures L k.bounds) c.if-at-range.false
