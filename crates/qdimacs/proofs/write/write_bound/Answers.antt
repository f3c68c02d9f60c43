-- `qdimacs::write::write_bound` meets its contract.
use Rattle.std.proofs.Common.{refl, ◌∙◌, arith}
use borrow.Author.Tests.{eqb-true}
use Rattle.rows.proofs.Layouts.{length-rows_in}
use Rattle.qdimacs.proofs.Binding.{walked_number}
use Rattle.qdimacs.proofs.Putting.{number_fits}
use Rattle.qdimacs.proofs.WritingPrefix.{bound_written_none, bound_written_ends, bound-row_there, bound_written_more, bound_written_all}
use Rattle.qdimacs.proofs.write.write_bound.Goals as goal

pub loop-at-init : goal.loop-at-init
loop-at-init c = (bound_written_none c.requires.0 (omega (arith, length-rows_in c.args.out.now c.requires.1, c.requires.2)), refl)

pub returns-then-next-ge-CLAUSE : goal.returns-then-next-ge-CLAUSE
returns-then-next-ge-CLAUSE c =
    let all = bound_written_ends c.loop-at.invariant.0 c.next_token-t.ensures c.step-next.ensures c.if-next-ge-CLAUSE.true in
    record { out_after = all.0; value = all.1 }

pub write_if-r-requires : goal.write_if-r-requires
write_if-r-requires c =
    let reads = c.next_token-t.ensures in
    let h = c.loop-at.invariant in (
      record { holds = omega (arith, c.requires.1.holds, h.1) },
      λ e. omega (arith, bound-row_there h.0 reads c.step-next.ensures c.if-next-ge-CLAUSE.false (eqb-true _ 7 e), c.requires.2),
      omega (arith, h.0.put.inside, length-rows_in c.args.out.now c.requires.1, c.requires.3),
      λ e. number_fits c.args.s c.next_token-t.result.magnitude (omega (arith, walked_number h.0.walked reads (eqb-true _ 7 e))),
    )

pub loop-at-preserved : goal.loop-at-preserved
loop-at-preserved c =
    let h = c.loop-at.invariant in
    let written = c.write_if-r in (
      bound_written_more h.0 c.next_token-t.ensures c.step-next.ensures c.if-next-ge-CLAUSE.false
          (omega (arith, length-rows_in c.args.out.now c.requires.1, c.requires.2)) written.ensures.out_after written.ensures.value,
      written.auto.out ∙ h.1,
    )

pub returns : goal.returns
returns c = let all = bound_written_all c.loop-at.invariant.0 (omega arith) in record { out_after = all.0; value = all.1 }
