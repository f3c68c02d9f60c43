-- `strategy::room::nodes_that_fit` meets its contract.
use mathlib.Core.Path.{ap, ◌∙◌}
use Prim.Native.Nat.{◌-◌, min}
use native.Mathlib.Omega.{arith}
use Rattle.rows.specs.Formats.{format_of}
use Rattle.rows.proofs.Limits.{limits}
use Rattle.strategy.proofs.Fitting.{none-fits, most_fit}
use Rattle.strategy.proofs.room.nodes_that_fit.Goals as goal

pub returns-then-rows-v : goal.returns-then-rows-v
returns-then-rows-v c =
    let a = c.args in
    (none-fits (format_of a.f) c.rows_that_fit-rows.ensures a.v c.if-rows-v.true, omega arith)

pub returns : goal.returns
returns c =
    let a = c.args in
    let e = c.shorter.ensures ∙ ap (λ n. min n (c.rows_that_fit-rows.result - a.v)) c.most_nodes.ensures in (
      most_fit (format_of a.f) c.rows_that_fit-rows.ensures a.v c.if-rows-v.false e,
      omega (arith, e, (limits a.f).few_nodes),
    )
