-- `pair_tests::form::read_pairs` meets its contract.
use Rattle.std.proofs.Common.{sym, ap, ◌∙◌, arith}
use Rattle.formula.specs.Tree.{Tree}
use Rattle.subtrees.specs.Subtrees.{top}
use Rattle.subtrees.proofs.Siblings.{subtree_root}
use Rattle.pair_tests.proofs.Children.{no_or, reading_none, here-inside, reading-stops, reading-on, reading-all, cuts-read}
use Rattle.pair_tests.proofs.form.read_pairs.Goals as goal

pub returns-then-kind_at-ne-OR-clause-value : goal.returns-then-kind_at-ne-OR-clause-value
returns-then-kind_at-ne-OR-clause-value c =
    let root = subtree_root c.args.b.now c.requires.0.readable in
    no_or _ (λ e. c.if-kind_at-ne-OR.true (c.kind_at.ensures ∙ ap (λ (t : Tree). (top t).kind) root ∙ e))

pub loop-j-init : goal.loop-j-init
loop-j-init c =
    reading_none c.args.b.now c.requires.0 (sym c.kind_at.ensures ∙ c.if-kind_at-ne-OR.false) c.children_at-n.ensures.0 c.requires.1

pub is_pair-requires : goal.is_pair-requires
is_pair-requires c = (c.requires.0.readable, here-inside c.args.b.now c.requires.0 c.loop-j.invariant c.loop-j-test.true)

pub returns-then-not-is_pair-clause-value : goal.returns-then-not-is_pair-clause-value
returns-then-not-is_pair-clause-value c =
    reading-stops c.args.b.now c.requires.0 c.loop-j.invariant c.loop-j-test.true c.is_pair.ensures c.if-not-is_pair.true

pub bounds-ends-at : goal.bounds-ends-at
bounds-ends-at c = omega (arith, here-inside c.args.b.now c.requires.0 c.loop-j.invariant c.loop-j-test.true, c.requires.0.holds)

pub loop-j-preserved : goal.loop-j-preserved
loop-j-preserved c =
    reading-on c.args.b.now c.requires.0 c.loop-j.invariant c.loop-j-test.true c.is_pair.ensures c.if-not-is_pair.false (omega arith)

pub returns-clause-value : goal.returns-clause-value
returns-clause-value c = reading-all c.args.b.now c.requires.0 c.loop-j.invariant c.loop-j-test.false

pub returns-clause-cuts_after : goal.returns-clause-cuts_after
returns-clause-cuts_after c = λ e. cuts-read c.args.b.now c.requires.0 c.loop-j.invariant c.loop-j-test.false
