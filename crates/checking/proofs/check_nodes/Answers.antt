-- `checking::check_nodes` meets its contract: what is left of the tests at each row decides as all of them do.
use Rattle.std.proofs.Common.{sym, ap, ◌∙◌, arith}
use Rattle.rows.specs.Formulas.{node_rows_in}
use Rattle.rows.proofs.Layouts.{length-rows_in}
use Rattle.checking.specs.Inner.Stages.{node}
use Rattle.checking.proofs.RowTests.{nodes-none, nodes-all, node-kind, node-unbound, node-turn}
use Rattle.checking.proofs.check_nodes.Goals as goal

pub loop-r-init : goal.loop-r-init
loop-r-init c = nodes-none _ _ _ _ (omega (arith, length-rows_in c.args.sheet.now c.requires.0.room))

pub returns-then-not-is_node : goal.returns-then-not-is_node
unfolding node_rows_in
returns-then-not-is_node c =
    node-kind _ _ _ _ (omega (arith, length-rows_in c.args.sheet.now c.requires.0.room)) c.loop-r.invariant
    (sym (c.is_node.ensures ∙ ap node c.kind_at.ensures) ∙ c.if-not-is_node.true)

pub returns-then-is_unbound : goal.returns-then-is_unbound
unfolding node_rows_in
returns-then-is_unbound c =
    node-unbound _ _ _ _ (omega (arith, length-rows_in c.args.sheet.now c.requires.0.room)) c.loop-r.invariant
    (sym (c.is_node.ensures ∙ ap node c.kind_at.ensures) ∙ c.if-not-is_node.false) c.args.bound.now c.requires.1
    (sym c.is_unbound.ensures ∙ c.if-is_unbound.true)

pub loop-r-preserved : goal.loop-r-preserved
loop-r-preserved c =
    node-turn _ _ _ _ (omega (arith, length-rows_in c.args.sheet.now c.requires.0.room)) c.loop-r.invariant
    (sym (c.is_node.ensures ∙ ap node c.kind_at.ensures) ∙ c.if-not-is_node.false) c.args.bound.now c.requires.1
    (sym c.is_unbound.ensures ∙ c.if-is_unbound.false)

pub returns : goal.returns
unfolding node_rows_in
returns c = nodes-all _ _ _ _ (omega (arith, length-rows_in c.args.sheet.now c.requires.0.room)) c.loop-r.invariant
