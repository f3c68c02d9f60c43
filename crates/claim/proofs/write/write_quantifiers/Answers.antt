-- `claim::write::write_quantifiers` meets its contract: a row a turn.
use Rattle.std.proofs.Common.{◌≡◌, ◌+◌, arith}
use Rattle.claim.proofs.Turns.{quantified-none, quantified-on, quantified-all, fits_bound, room_on}
use Rattle.claim.proofs.write.write_quantifiers.Goals as goal

pub loop-i-init : goal.loop-i-init
loop-i-init c = quantified-none c.args.b.now c.requires.0.readable c.args.kind c.args.t c.args.out.now

pub write_row-requires : goal.write_row-requires
write_row-requires c = (
  room_on c.requires.1.room c.loop-i.invariant.same_length,
  omega (arith, c.loop-i-test.true, c.requires.2),
  fits_bound c.args.t c.args.b.now c.requires.0 c.requires.1.same_format c.loop-i.i c.loop-i-test.true c.bound_at.ensures.0,
)

pub loop-i-preserved : goal.loop-i-preserved
loop-i-preserved c =
    let next : c.loop-i.i + 1 ≡ c.write_row.result = omega (arith, c.write_row.ensures.next_row) in
    rw next
    (quantified-on c.args.b.now c.requires.0.readable c.args.kind c.args.t c.args.out.now c.loop-i.invariant c.loop-i-test.true c.bound_at.ensures.0
    c.write_row.ensures c.write_row.auto.out)

pub returns : goal.returns
returns c = quantified-all c.args.b.now c.requires.0.readable c.args.kind c.args.t c.args.out.now c.loop-i.invariant c.loop-i-test.false
