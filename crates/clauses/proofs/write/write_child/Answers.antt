-- The goals of `clauses::write::write_child`. Assumes nothing.
use Rattle.std.proofs.Common.{slice_index_or, arith}
use Rattle.substitution.proofs.Splice.{laid_on, ready_on}
use Rattle.clauses.proofs.Writing.{length_implied}
use Rattle.clauses.proofs.write.write_child.Goals as goal

pub write_implied-at-requires : goal.write_implied-at-requires
write_implied-at-requires c =
    let h = c.requires.named in
    (omega (arith, h.3, h.0.has_entries), h.1.room, omega (arith, c.requires.each_bound))

pub write_name-requires : goal.write_name-requires
write_name-requires c =
    let h = c.requires.named in
    let child = c.args.child in (
      h.0,
      ready_on h.1 c.write_implied-at.auto.out,
      h.2,
      omega (
        arith,
        c.requires.each_bound,
        c.write_implied-at.ensures.next_row,
        length_implied child.each (slice_index_or c.args.names.now child.operator 0) 0,
      ),
    )

pub returns : goal.returns
returns c = laid_on c.write_implied-at.ensures c.write_name.ensures
