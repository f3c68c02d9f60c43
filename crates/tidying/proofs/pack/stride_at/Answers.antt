-- `tidying::pack::stride_at` meets its contract.
use Rattle.std.proofs.Common.{sym, ◌∙◌, arith}
use Rattle.tidying.proofs.Packed.{stride_dead, stride-live}
use Rattle.tidying.proofs.pack.stride_at.Goals as goal

pub returns-then-kind_at-eq-GONE : goal.returns-then-kind_at-eq-GONE
returns-then-kind_at-eq-GONE c = (
  c.argument_at.ensures.0 ∙ sym (stride_dead _ (sym c.kind_at.ensures ∙ c.if-kind_at-eq-GONE.true)),
  c.argument_at.ensures.1,
)

pub returns : goal.returns
returns c = (sym (stride-live _ (λ e. c.if-kind_at-eq-GONE.false (c.kind_at.ensures ∙ e))), omega arith)
