-- `decide::waiting::set_aside` meets its contract. Assumes nothing.
use Rattle.std.proofs.Common.{◌≡◌, ◌≤◌, sym, length, arith}
use lib.Seq.{length-take-le}
use Rattle.sheet.specs.Format.{sheet_length}
use Rattle.rows.specs.Layouts.{size}
use Rattle.decide.proofs.Halving.{copied-front}
use Rattle.decide.proofs.waiting.set_aside.Goals as goal

pub slice_bounds-copy_front-end : goal.slice_bounds-copy_front-end
unfolding sheet_length
slice_bounds-copy_front-end c =
    sym (length-take-le c.sheet_length-n.result c.args.b.now (omega (arith, c.sheet_length-n.ensures, c.requires.readable.room.holds)))

pub copy_front-requires : goal.copy_front-requires
unfolding sheet_length
copy_front-requires c =
    let n = c.sheet_length-n.ensures in
    let inside : c.sheet_length-n.result ≤ length c.args.b.now = omega (arith, n, c.requires.readable.room.holds) in
    omega (arith, length-take-le c.sheet_length-n.result c.args.b.now inside, n, c.requires.has_room, c.if-stack-place.false)

pub returns : goal.returns
unfolding sheet_length
returns c =
    let its_size : c.sheet_length-n.result ≡ size c.args.t = c.sheet_length-n.ensures in (
      c.if-stack-place.false,
      copied-front c.args.b.now c.args.stack.now its_size (omega (arith, its_size, c.requires.readable.room.holds)) c.copy_front.ensures,
    )
