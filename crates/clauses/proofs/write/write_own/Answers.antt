-- The goals of `clauses::write::write_own`. Assumes nothing.
use Rattle.std.proofs.Common.{ap, subst, length, arith}
use lib.ListN.{length-append}
use Rattle.substitution.specs.Output.{Laid}
use Rattle.substitution.proofs.Splice.{laid_on, ready_on}
use Rattle.subtrees.specs.Subtrees.{subtree_in}
use Rattle.clauses.specs.Inner.Writing.{below_rows, head_rows}
use Rattle.clauses.proofs.Writing.{head-below}
use Rattle.clauses.proofs.write.write_own.Goals as goal

pub write_head-at-requires-clause-place_bound : goal.write_head-at-requires-clause-place_bound
write_head-at-requires-clause-place_bound c =
    let p = c.args.place in
    let L = c.args.names.now in
    let here = subtree_in c.args.s c.args.b.now p.row in
    omega (
      arith,
      c.requires.place_bound,
      length-append (head_rows L p.row p.conjunct here) (below_rows L p.row here),
      ap length (head-below L p.row p.conjunct here),
    )

pub write_below-requires-clause-indexed : goal.write_below-requires-clause-indexed
write_below-requires-clause-indexed c =
    let h = c.requires.indexed in
    (h.0, h.1, ready_on h.2 c.write_head-at.auto.out, h.3)

pub write_below-requires-clause-row_bound : goal.write_below-requires-clause-row_bound
write_below-requires-clause-row_bound c =
    let p = c.args.place in
    let L = c.args.names.now in
    let here = subtree_in c.args.s c.args.b.now p.row in
    omega (
      arith,
      c.requires.place_bound,
      c.write_head-at.ensures.next_row,
      length-append (head_rows L p.row p.conjunct here) (below_rows L p.row here),
      ap length (head-below L p.row p.conjunct here),
    )

pub returns : goal.returns
returns c =
    let p = c.args.place in
    subst (Laid p.layout c.args.out.now _ p.at _) (head-below c.args.names.now p.row p.conjunct (subtree_in c.args.s c.args.b.now p.row))
    (laid_on c.write_head-at.ensures c.write_below.ensures)
