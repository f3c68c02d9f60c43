-- `claim::plan::is_same_prefix` meets its contract.
use Rattle.std.proofs.Common.{sym, ◌∙◌, arith}
use Rattle.rows.specs.Formulas.{prefix_in}
use Rattle.rows.proofs.Formulas.{length_prefix}
use Rattle.claim.proofs.Deciding.{alike-none, lengths_differ, alike_all, alike-stops, alike-on}
use Rattle.claim.proofs.plan.is_same_prefix.Goals as goal

pub returns-then-s-t : goal.returns-then-s-t
returns-then-s-t c =
    let a = c.args in
    lengths_differ (prefix_in a.s a.b.now) (prefix_in a.t a.d.now)
    (λ e. c.if-s-t.true (sym (length_prefix a.b.now c.requires.0) ∙ e ∙ length_prefix a.d.now c.requires.1))

pub loop-i-init : goal.loop-i-init
loop-i-init c = alike-none (prefix_in c.args.s c.args.b.now) (prefix_in c.args.t c.args.d.now)

pub returns-then-not-is_same_row : goal.returns-then-not-is_same_row
returns-then-not-is_same_row c =
    alike-stops c.args.b.now c.args.d.now c.requires.0 c.requires.1 c.if-s-t.false c.loop-i.invariant c.loop-i-test.true c.is_same_row.ensures
    c.if-not-is_same_row.true

pub loop-i-preserved : goal.loop-i-preserved
loop-i-preserved c =
    alike-on c.args.b.now c.args.d.now c.requires.0 c.requires.1 c.if-s-t.false c.loop-i.invariant c.loop-i-test.true c.is_same_row.ensures
    (omega arith) c.if-not-is_same_row.false

pub returns : goal.returns
returns c = alike_all c.args.b.now c.args.d.now c.requires.0 c.requires.1 c.if-s-t.false c.loop-i.invariant c.loop-i-test.false
