-- `solve::line::refused_line` meets its contract.
use Rattle.std.proofs.Common.{refl}
use Rattle.sheet.specs.Operations.{line_of}
use Rattle.solve.proofs.line.refused_line.Goals as goal

pub returns : goal.returns
unfolding line_of
returns c place = refl
