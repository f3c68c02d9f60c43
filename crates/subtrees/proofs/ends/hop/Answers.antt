-- `subtrees::ends::hop` meets its contract.
use Rattle.std.proofs.Common.{◌≡◌, sym, ◌∙◌, ◌-◌, ◌+◌, arith}
use Rattle.subtrees.proofs.Table.{hop_on, hops-none}
use Rattle.subtrees.proofs.ends.hop.Goals as goal

pub loop-preserved : goal.loop-preserved
loop-preserved c =
    let l = c.loop in
    let ends = c.args.ends.now in
    let on = hop_on ends {left = c.args.count - l.counter} (omega arith) l.invariant.0 in
    let fewer : c.args.count - l.counter - 1 ≡ c.args.count - (l.counter + 1) = omega arith in
    rw (← fewer, c.from-at.ensures) (on.onward, l.invariant.1 ∙ on.same)

pub returns : goal.returns
returns c = sym (c.loop.invariant.1 ∙ hops-none c.args.ends.now (omega arith))
