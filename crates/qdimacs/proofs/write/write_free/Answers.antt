-- `qdimacs::write::write_free` meets its contract.
use Rattle.std.proofs.Common.{refl, ◌∙◌, arith}
use borrow.Author.Tests.{eqb-true}
use Rattle.rows.proofs.Layouts.{length-rows_in}
use Rattle.qdimacs.proofs.Putting.{number_fits}
use Rattle.qdimacs.proofs.WritingPrefix.{free_written_none, few_rows, free-row_at, free_written_next, free_written_all}
use Rattle.qdimacs.proofs.write.write_free.Goals as goal

pub loop-x-init : goal.loop-x-init
loop-x-init c = (free_written_none _ _ _, refl)

pub write_if-r-requires : goal.write_if-r-requires
write_if-r-requires c =
    let h = c.loop-x.invariant in (
      record { holds = omega (arith, c.requires.0.holds, h.1) },
      λ e. omega (arith, free-row_at h.0 c.loop-x.x (omega arith) (omega arith) (eqb-true _ 2 e), c.requires.2),
      omega (arith, few_rows h.0, c.requires.1),
      λ e. number_fits c.args.s c.loop-x.x (omega (arith, c.requires.1)),
    )

pub loop-x-preserved : goal.loop-x-preserved
loop-x-preserved c =
    let h = c.loop-x.invariant in
    let written = c.write_if-r in (
      free_written_next h.0 c.loop-x.x (omega arith) _ (omega arith) (omega arith) (omega (arith, length-rows_in c.args.out.now c.requires.0, c.requires.2))
          written.ensures.out_after written.ensures.value,
      written.auto.out ∙ h.1,
    )

pub returns : goal.returns
returns c = let all = free_written_all c.loop-x.invariant.0 (omega arith) in record { out_after = all.0; value = all.1 }
