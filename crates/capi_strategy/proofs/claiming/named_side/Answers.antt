-- `capi_strategy::claiming::named_side`: a kind other than 1 names the side of for all.
-- Assumes nothing.
use Rattle.std.proofs.Common.{sym, ap, cond, ne_eqb}
use Rattle.formula.specs.Tree.{exists, for_all}
use Rattle.capi_strategy.proofs.claiming.named_side.Goals as goal

pub returns : goal.returns
returns c = sym (ap (λ m. cond m exists for_all) (ne_eqb c.args.kind 1 c.if-kind-eq1.false))
