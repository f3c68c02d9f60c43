-- `solve::step::bring` meets its contract: the part lent has room for both sheets, and behind it are zeros already.
use Rattle.std.proofs.Common.{◌≤◌, refl, ap, ◌∙◌, length, take, arith}
use Rattle.sheet.specs.Operations.{padded}
use Rattle.solve.specs.Inner.Running.{long_in}
use Rattle.solve.proofs.Fetching.{cleared_part}
use Rattle.solve.proofs.step.bring.Goals as goal

pub returns : goal.returns
returns c =
    let a = c.args in
    let p = c.requires in
    let inside : c.max-part.result ≤ length a.first.now
    = omega (arith, c.max-part.ensures, c.sheet_length-bytes.ensures, c.sheet_length.ensures, p.fetchable.in_first, p.zeros.inside) in
    cleared_part a.second.now a.first.now c.sheet_length-bytes.result c.max-part.result (long_in a.from a.from)
    (omega (arith, c.sheet_length-bytes.ensures, p.fetchable.in_second)) (omega (arith, c.max-part.ensures))
    (omega (arith, c.max-part.ensures, c.sheet_length.ensures)) inside p.zeros c.fetch.ensures refl ∙
    ap (λ n. padded (length a.first.now) (take n a.second.now)) c.sheet_length-bytes.ensures
