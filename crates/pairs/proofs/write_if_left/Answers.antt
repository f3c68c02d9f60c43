-- `pairs::write_if_left` meets its contract.
use Rattle.std.proofs.Common.{ap, subst, length, arith}
use Rattle.rows.proofs.Limits.{number_fits}
use Rattle.prefixes.specs.Places.{binding_in}
use Rattle.substitution.specs.Output.{Laid}
use Rattle.substitution.proofs.Splice.{laid_on}
use Rattle.raw.proofs.Raws.{room_on}
use Rattle.pairs.proofs.Rows.{own_left}
use Rattle.pairs.proofs.write_if_left.Goals as goal

pub write_row-requires : goal.write_row-requires
write_row-requires c =
    let a = c.args in
    let own = own_left a.exists (binding_in a.s a.b.now a.i) c.is_existential.ensures c.if-is_existential-exists.false c.bound_at.ensures.0 in (
      room_on c.requires.readable.2 c.write_head-at.auto.out,
      omega (arith, c.requires.i_bound, ap length own, c.write_head-at.ensures.next_row),
      number_fits a.to.layout.format (omega arith),
    )

pub returns : goal.returns
returns c =
    let a = c.args in
    let own = own_left a.exists (binding_in a.s a.b.now a.i) c.is_existential.ensures c.if-is_existential-exists.false c.bound_at.ensures.0 in
    subst (Laid a.to.layout a.out.now _ a.to.at _) own (laid_on c.write_head-at.ensures c.write_row.ensures)
