-- `substitution::change::first_changed` meets its contract.
use Rattle.std.proofs.Common.{sym, ◌∙◌, arith}
use Rattle.rows.specs.Layouts.{rows_in}
use Rattle.rows.proofs.Layouts.{length-rows_in}
use Rattle.substitution.proofs.Copied.{stays-none, stays-next}
use Rattle.substitution.proofs.change.first_changed.Goals as goal

pub loop-r-init : goal.loop-r-init
loop-r-init c = stays-none c.args.table.now (rows_in c.args.s c.args.b.now) c.args.span.from

pub loop-r-preserved : goal.loop-r-preserved
loop-r-preserved c =
    stays-next c.args.table.now (rows_in c.args.s c.args.b.now) c.args.span.from c.loop-r.r c.loop-r.auto.r
    (omega (arith, c.requires.1.inside, length-rows_in c.args.b.now c.requires.0)) c.loop-r.invariant
    (sym c.is_changed.ensures ∙ c.if-is_changed.false)
