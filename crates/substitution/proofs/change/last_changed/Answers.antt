-- `substitution::change::last_changed` meets its contract.
use Rattle.std.proofs.Common.{◌≡◌, ◌+◌, ◌-◌, sym, ◌∙◌, subst, arith}
use Rattle.rows.specs.Layouts.{rows_in}
use Rattle.rows.proofs.Layouts.{length-rows_in}
use Rattle.substitution.specs.Output.{Stays}
use Rattle.substitution.proofs.Copied.{stays-none, stays-before}
use Rattle.substitution.proofs.change.last_changed.Goals as goal

pub loop-r-init : goal.loop-r-init
loop-r-init c =
    record { ahead = c.requires.1.ordered; stays = stays-none c.args.table.now (rows_in c.args.s c.args.b.now) c.args.span.to }

pub loop-r-preserved : goal.loop-r-preserved
loop-r-preserved c =
    let r = c.loop-r.r in
    let back : r ≡ r - 1 + 1 = omega arith in
    record {
      ahead = omega arith;
      stays =
          stays-before c.args.table.now (rows_in c.args.s c.args.b.now) (r - 1) c.args.span.to (omega arith)
          (omega (arith, c.requires.1.inside, length-rows_in c.args.b.now c.requires.0))
          (subst (λ n. Stays c.args.s c.args.b.now c.args.table.now n c.args.span.to) back c.loop-r.invariant.stays)
          (sym c.is_changed.ensures ∙ c.if-is_changed.false);
    }
