-- `dependence::mark::mark_rows` meets its contract.
use Rattle.std.proofs.Common.{ℕ, ◌-◌, ap, arith}
use Rattle.dependence.specs.Marks.{literal_in}
use Rattle.dependence.proofs.Marks.{rows_start, rows_next, marked_as}
use Rattle.dependence.proofs.mark.mark_rows.Goals as goal

pub loop-i-init : goal.loop-i-init
loop-i-init c = rows_start c.args.s c.args.b.now c.args.from

pub loop-i-preserved : goal.loop-i-preserved
loop-i-preserved c =
    rows_next c.args.s c.args.b.now c.args.from c.loop-i.i (omega arith) (omega arith) c.loop-i.invariant c.mark_row.ensures

pub returns : goal.returns
returns c =
    marked_as c.loop-i.invariant (λ v h. ap (λ (i : ℕ). literal_in c.args.s c.args.b.now v (i - c.args.from) c.args.from) (omega arith))
