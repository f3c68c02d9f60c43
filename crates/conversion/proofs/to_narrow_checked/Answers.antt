-- `conversion::to_narrow_checked` meets its contract.
use Rattle.conversion.proofs.Tests.{to-narrow-above, to-narrow-ready, to-narrow-within}
use Rattle.conversion.proofs.to_narrow_checked.Goals as goal

pub returns-then-is_beyond : goal.returns-then-is_beyond
returns-then-is_beyond c = to-narrow-above c.requires c.is_beyond.ensures c.if-is_beyond.true c.args.out.now

pub convert_within-requires : goal.convert_within-requires
convert_within-requires c = to-narrow-ready c.requires c.is_beyond.ensures c.if-is_beyond.false

pub returns : goal.returns
returns c = to-narrow-within c.requires c.is_beyond.ensures c.if-is_beyond.false c.args.out.now c.convert_within.ensures
