-- `choice::settle::choose_by` meets its contract.
use Rattle.choice.proofs.Settling.{settle_start, settle_all}
use Rattle.choice.proofs.settle.choose_by.Goals as goal

pub loop-i-init : goal.loop-i-init
loop-i-init c = settle_start c.args.s c.args.b.now

pub returns : goal.returns
returns c = settle_all c.args.b.now c.requires.0 c.loop-i.best c.loop-i-test.false c.loop-i.invariant
