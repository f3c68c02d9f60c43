-- `strategy::draft::draft_pair` meets its contract.
use mathlib.Core.Path.{◌≡◌, sym, ap, ◌∙◌}
use Prim.Native.Nat.{◌+◌}
use lib.ListN.{length}
use Rattle.rows.specs.Formulas.{matrix_in}
use Rattle.rows.proofs.Formulas.{rows-nodes}
use Rattle.pairs.specs.Pairs.{one_pair}
use Rattle.strategy.proofs.Drafting.{only_counted, length_pair}
use Rattle.strategy.proofs.draft.draft_pair.Goals as goal

pub returns-then-t-next : goal.returns-then-t-next
returns-then-t-next c =
    let counted : 2 + c.args.s.nodes ≡ length (one_pair c.args.x (matrix_in c.args.s c.args.b.now)) =
    sym (length_pair c.args.x (matrix_in c.args.s c.args.b.now) ∙ ap (λ k. 2 + k) (rows-nodes c.args.b.now c.requires.0)) in
    only_counted (ap (λ k. c.args.to.at + k) counted) c.if-t-next.true
