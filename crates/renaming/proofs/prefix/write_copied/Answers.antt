-- `renaming::prefix::write_copied` meets its contract.
use Rattle.std.proofs.Common.{sym, ap, subst, length, arith}
use Rattle.substitution.specs.Output.{Laid}
use Rattle.rows.proofs.Limits.{number_fits}
use Rattle.renaming.proofs.Copied.{same_row, put-row, new_row, laid_none}
use Rattle.renaming.proofs.prefix.write_copied.Goals as goal
use Rattle.renaming.proofs.prefix.write_copied.Goals.{then-n-v-via-then-n-v, then-n-v-via-else-n-v+then-n-ge-NUMBERS}

pub returns-then-n-v : goal.returns-then-n-v
returns-then-n-v c =
    let a = c.args in
    laid_none a.to.layout a.out.now a.to.at
    (elim c.then-n-v.branch [
      | then-n-v-via-then-n-v w ↦ same_row a.table.now a.v c.entry-n.ensures w.if-n-v.true
      | then-n-v-via-else-n-v+then-n-ge-NUMBERS w ↦ put-row a.table.now a.v c.entry-n.ensures w.if-n-v.false w.if-n-ge-NUMBERS.true
    ])

pub write_row-requires : goal.write_row-requires
write_row-requires c =
    let a = c.args in
    let is = new_row a.table.now a.v c.entry-n.ensures c.if-n-v.false c.if-n-ge-NUMBERS.false in
    (c.requires.0, omega (arith, c.requires.1, ap length is), number_fits a.to.layout.format (omega arith))

pub returns : goal.returns
returns c =
    let a = c.args in
    subst (Laid a.to.layout a.out.now _ a.to.at _)
    (sym (new_row a.table.now a.v c.entry-n.ensures c.if-n-v.false c.if-n-ge-NUMBERS.false)) c.write_row.ensures
