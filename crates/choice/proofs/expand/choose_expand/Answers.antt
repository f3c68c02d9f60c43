-- `choice::expand::choose_expand` meets its contract.
use Rattle.std.proofs.Common.{◌-◌, arith}
use Rattle.choice.proofs.Expanding.{price-start, price-on, price-all}
use Rattle.choice.proofs.expand.choose_expand.Goals as goal

pub loop-i-init : goal.loop-i-init
loop-i-init c =
    price-start c.args.b.now c.requires.0.readable c.requires.1 c.requires.4 (c.args.s.variables - 1) (omega arith) c.price_row-best.ensures

pub loop-i-preserved : goal.loop-i-preserved
loop-i-preserved c =
    let l = c.loop-i in
    price-on c.args.b.now c.requires.0.readable c.requires.1 c.requires.4 l.i (omega arith) (omega arith) c.price_row.ensures
    c.cheaper_of-best.ensures l.invariant

pub returns : goal.returns
returns c = price-all c.args.b.now c.requires.0.readable c.requires.1 c.requires.4 (omega (arith, c.loop-i-test.false)) c.loop-i.invariant
