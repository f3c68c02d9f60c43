-- `tree_order::merging::copy_entries` meets its contract.
use Rattle.std.proofs.Common.{refl, ap, ◌∙◌, ◌+◌, ◌++◌, length, take, drop, arith}
use lib.Seq.{take_all}
use Rattle.rows.proofs.Pasting.{pasted_none, pasted_one, pasted_all}
use Rattle.tree_order.proofs.merging.copy_entries.Goals as goal

pub loop-i-init : goal.loop-i-init
loop-i-init c = pasted_none _ _ _ _ (omega arith) c.requires

pub loop-i-preserved : goal.loop-i-preserved
loop-i-preserved c = pasted_one _ _ _ _ (omega arith) c.requires c.loop-i-test.true c.loop-i.invariant refl refl

pub returns : goal.returns
returns c =
    let a = c.args in
    pasted_all _ _ _ _ (omega arith) c.requires c.loop-i-test.false c.loop-i.invariant ∙
    ap (λ p. take a.to a.table.now ++ p ++ drop (a.to + length a.from.now) a.table.now) (take_all (length a.from.now) a.from.now (omega arith))
