-- `decide::waiting::write_half` meets its contract. Assumes nothing.
use Rattle.std.proofs.Common.{◌<◌, ◌∙◌, ap, arith}
use Rattle.substitution.specs.Changes.{putting_in}
use Rattle.prefixes.specs.Places.{binding_in}
use Rattle.decide.proofs.Halving.{small, halved}
use Rattle.decide.proofs.waiting.write_half.Goals as goal

pub fill-requires : goal.fill-requires
fill-requires c = (omega (arith, c.bound_at.ensures, small c.requires), omega arith)

pub returns : goal.returns
returns c =
    let few : (binding_in c.args.t c.args.b.now 0).variable < 1025 = omega (arith, small c.requires) in
    halved c.requires c.args.value few
    (c.fill.ensures ∙ ap (λ y. putting_in 1025 y c.args.value) c.bound_at.ensures.0)
    c.write_settled.auto.out (omega arith) c.write_settled.ensures
