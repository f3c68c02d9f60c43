-- `resolution::words::part_of` meets its contract.
use Rattle.std.proofs.Common.{arith}
use Rattle.resolution.proofs.Codes.{part_capped}
use Rattle.resolution.proofs.words.part_of.Goals as goal

pub returns : goal.returns
returns c =
    let a = c.args in
    part_capped a.heads.now a.codes.now a.k a.skip _ _ c.codes_from.ensures (omega (arith, c.min.ensures, c.head_word.ensures.0))
