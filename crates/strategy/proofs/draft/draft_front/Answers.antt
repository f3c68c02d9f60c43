-- `strategy::draft::draft_front` meets its contract.
use native.Mathlib.Omega.{arith}
use Rattle.rows.specs.Formulas.{prefix_in}
use Rattle.rows.proofs.Formulas.{length_prefix}
use Rattle.strategy.proofs.Drafting.{only_counted, length_front}
use Rattle.strategy.proofs.draft.draft_front.Goals as goal

pub returns-then-t-eq0 : goal.returns-then-t-eq0
returns-then-t-eq0 c =
    let p = c.requires in
    let rows = length_front (prefix_in c.args.s c.args.b.now) c.args.pairs in
    only_counted (omega (arith, length_prefix c.args.b.now p.0, rows)) (omega (arith, c.if-t-eq0.true, p.1.same_variables))
