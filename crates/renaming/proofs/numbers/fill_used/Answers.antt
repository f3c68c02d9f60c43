-- `renaming::numbers::fill_used` meets its contract.
use Rattle.std.proofs.Common.{arith}
use Rattle.renaming.proofs.Renumbering.{using_none, using_next, using_all}
use Rattle.renaming.proofs.numbers.fill_used.Goals as goal

pub loop-j-init : goal.loop-j-init
loop-j-init c = using_none c.args.b.now c.requires.0 c.requires.2

pub loop-j-preserved : goal.loop-j-preserved
loop-j-preserved c =
    using_next c.args.b.now c.requires.0 (omega arith) (omega arith) c.bound_at.ensures.0 c.loop-j.invariant
    c.add.ensures.set_len_unchanged c.add.ensures.by_index

pub returns : goal.returns
returns c = using_all c.args.b.now c.requires.0 (omega (arith, c.loop-j.auto)) c.loop-j.invariant
