-- `rows::read::variables_at` meets its contract: V stands first.
use Rattle.std.proofs.Common.{rules}
use Rattle.sheet.specs.Format.{variables}
use Rattle.rows.proofs.read.variables_at.Goals as goal

pub returns : goal.returns
unfolding variables
returns c = search rules
