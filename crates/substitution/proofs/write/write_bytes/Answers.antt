-- `substitution::write::write_bytes` meets its contract.
use Rattle.std.proofs.Common.{take, drop, length-drop, arith}
use Rattle.std.proofs.Math.Seq.{length-take-le}
use Rattle.substitution.proofs.Splice.{lent}
use Rattle.substitution.proofs.write.write_bytes.Goals as goal

pub returns : goal.returns
returns c =
    let a = c.args in
    let rest = drop a.from a.b.now in
    lent a.out.now (take a.count rest) a.start a.count (length-take-le a.count rest (omega (arith, c.requires.0, length-drop a.from a.b.now)))
    c.copy_bytes.ensures
