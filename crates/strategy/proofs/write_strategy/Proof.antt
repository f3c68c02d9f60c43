-- `strategy::write_strategy` meets its contract. Assumes nothing.
use mathlib.Core.Path.{◌∙◌}
use borrow.Author.Rules.{rules}
use native.Mathlib.Omega.{arith}
use Rattle.solve.proofs.Answering.{all_zeros}
use Rattle.strategy.proofs.Ending.{behind, too_long, inside, has_room, written}
use Rattle.strategy.proofs.write_strategy.Statement.{statement}
use Rattle.strategy.proofs.write_strategy.Tie as tie

draft_strategy-to-requires : tie.Need-draft_strategy-to-requires
draft_strategy-to-requires c κs = search rules

overflow_sub-nodes : tie.Need-overflow_sub-nodes
overflow_sub-nodes c =
    let d = c in
    omega (arith, behind d.requires d.draft_strategy-to.ensures.0)

clear-requires : tie.Need-clear-requires
clear-requires c κs = search rules

shape_of-first-then-t-nodes : tie.Need-shape_of-first-then-t-nodes
shape_of-first-then-t-nodes c = search rules

shape_of-second-then-t-nodes : tie.Need-shape_of-second-then-t-nodes
shape_of-second-then-t-nodes c = search rules

shape_of-out-then-t-nodes : tie.Need-shape_of-out-then-t-nodes
shape_of-out-then-t-nodes c = search rules

returns-then-t-nodes : tie.Need-returns-then-t-nodes
returns-then-t-nodes c =
    let z = c in
    let test = z in
    let d = test in
    let e = d.draft_strategy-to.ensures in
    let zeros = z.clear.ensures ∙ all_zeros d.draft_strategy-to.new.out d.draft_strategy-to.auto.out in
    (too_long d.requires e.0 test.if-t-nodes.true zeros, e.1)

seal-requires : tie.Need-seal-requires
seal-requires c κs =
    let test = c in
    let d = test in
    let r = d.requires in
    let e = d.draft_strategy-to.ensures.0 in (
      record { holds = omega (arith, (has_room r e test.if-t-nodes.false).holds, d.draft_strategy-to.auto.out) },
      inside r e test.if-t-nodes.false,
      omega (arith, behind r e),
    )

shape_of-first : tie.Need-shape_of-first
shape_of-first c = search rules

shape_of-second : tie.Need-shape_of-second
shape_of-second c = search rules

shape_of-out : tie.Need-shape_of-out
shape_of-out c = search rules

returns : tie.Need-returns
returns c =
    let z = c in
    let test = z in
    let d = test in
    let e = d.draft_strategy-to.ensures in
    let kept = d.draft_strategy-to.auto.out in
    (written d.requires e.0 test.if-t-nodes.false kept z.seal.ensures.0 z.seal.ensures.1, e.1)

pub write_strategy_spec : {M : Type 1} → statement M
write_strategy_spec =
    tie.close
    (tie.spec
    draft_strategy-to-requires
    overflow_sub-nodes
    clear-requires
    shape_of-first-then-t-nodes
    shape_of-second-then-t-nodes
    shape_of-out-then-t-nodes
    returns-then-t-nodes
    seal-requires
    shape_of-first
    shape_of-second
    shape_of-out
    returns)
