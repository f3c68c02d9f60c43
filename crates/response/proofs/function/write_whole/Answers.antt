-- `response::function::write_whole` meets its contract: every child is relevant.
use Rattle.std.proofs.Common.{subst, arith}
use Rattle.substitution.specs.Output.{Laid}
use Rattle.response.proofs.Writing.{selection_copy, whole}
use Rattle.response.proofs.function.write_whole.Goals as goal

pub overflow_add-subtree : goal.overflow_add-subtree
overflow_add-subtree c =
    let w = whole c.requires.0 c.requires.1 in
    omega (arith, w.inside, w.end_in, c.requires.0.readable.few_variables, c.requires.0.readable.few_nodes)

pub overflow_add-subtree-2 : goal.overflow_add-subtree-2
overflow_add-subtree-2 c =
    let w = whole c.requires.0 c.requires.1 in
    omega (arith, w.end_in, c.requires.0.readable.few_variables, c.requires.0.readable.few_nodes)

pub write_copy-requires : goal.write_copy-requires
write_copy-requires c =
    let w = whole c.requires.0 c.requires.1 in (
      selection_copy c.requires.0,
      record { ordered = omega (arith, w.inside); inside = omega (arith, w.end_in) },
      omega (arith, w.room),
    )

pub returns : goal.returns
returns c =
    let a = c.args in
    let w = whole c.requires.0 c.requires.1 in
    subst (Laid a.p.layout a.out.now _ a.p.layout.variables _) w.written c.write_copy.ensures.laid
