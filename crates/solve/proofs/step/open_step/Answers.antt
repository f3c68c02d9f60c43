-- `solve::step::open_step` meets its contract: a variable is settled if one may be, or else one is expanded.
use Rattle.std.proofs.Common.{subst, arith}
use Rattle.choice.specs.Settling.{ToSettle}
use Rattle.solve.proofs.Holding.{readable, numbered_to, bound}
use Rattle.solve.proofs.step.open_step.Goals as goal

pub choose_settle-requires : goal.choose_settle-requires
choose_settle-requires c =
    let h = c.requires.0.held in
    (readable h, bound h, rw c.most_variables.ensures (numbered_to h))

pub settle_step-requires : goal.settle_step-requires
settle_step-requires c =
    (c.requires.0, c.requires.1, subst (ToSettle c.args.s.sheet c.args.first.now) c.in-Some.is c.choose_settle.ensures)

pub fill_ends-requires : goal.fill_ends-requires
fill_ends-requires c =
    let ok = readable c.requires.0.held in
    (ok, omega (arith, ok.few_nodes, c.requires.2))

pub expand_step-requires : goal.expand_step-requires
expand_step-requires c =
    (c.requires.0, c.requires.1, subst (ToSettle c.args.s.sheet c.args.first.now) c.in_default.is c.choose_settle.ensures, c.fill_ends.ensures.indexed)
