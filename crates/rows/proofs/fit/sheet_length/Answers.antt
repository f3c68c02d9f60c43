-- `rows::fit::sheet_length` meets its contract.
use Rattle.sheet.specs.Format.{sheet_length}
use Rattle.rows.proofs.fit.sheet_length.Goals as goal

pub returns : goal.returns
unfolding sheet_length
returns c = rw c.width-w.ensures.0
