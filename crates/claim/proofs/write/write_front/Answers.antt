-- `claim::write::write_front` meets its contract.
use mathlib.Core.Path.{◌≡◌, ◌∙◌}
use native.Mathlib.Omega.{arith}
use lib.ListN.{length-map}
use Rattle.rows.specs.Formulas.{prefix_in}
use Rattle.rows.proofs.Formulas.{length_prefix}
use Rattle.substitution.proofs.Splice.{ready_on}
use Rattle.pair_tests.specs.Pairs.{side}
use Rattle.claim.specs.Inner.Writing.{of_kind}
use Rattle.claim.proofs.Turns.{room_on}
use Rattle.claim.proofs.Claims.{front-laid}
use Rattle.claim.proofs.write.write_front.Goals as goal

pub write_row-at-requires : goal.write_row-at-requires
write_row-at-requires c =
    let top_is : c.write_quantifiers-top.result ≡ c.args.s.variables =
    omega (
      arith,
      c.write_quantifiers-top.ensures.next_row,
      length-map (prefix_in c.args.s c.args.b.now) (of_kind c.quantifier_for.result),
      length_prefix c.args.b.now c.requires.0.readable,
    ) in
    (room_on c.requires.1.room c.write_quantifiers-top.auto.out, omega (arith, top_is, c.requires.2), c.requires.3)

pub write_rows-requires : goal.write_rows-requires
write_rows-requires c =
    let top_is : c.write_quantifiers-top.result ≡ c.args.s.variables =
    omega (
      arith,
      c.write_quantifiers-top.ensures.next_row,
      length-map (prefix_in c.args.s c.args.b.now) (of_kind c.quantifier_for.result),
      length_prefix c.args.b.now c.requires.0.readable,
    ) in (
      ready_on c.requires.1 (c.write_row-at.auto.out ∙ c.write_quantifiers-top.auto.out),
      record { ordered = omega arith; inside = omega arith },
      omega (arith, c.write_row-at.ensures.next_row, top_is, c.requires.2),
    )

pub returns : goal.returns
returns c =
    let top_is : c.write_quantifiers-top.result ≡ c.args.s.variables =
    omega (
      arith,
      c.write_quantifiers-top.ensures.next_row,
      length-map (prefix_in c.args.s c.args.b.now) (of_kind c.quantifier_for.result),
      length_prefix c.args.b.now c.requires.0.readable,
    ) in
    record {
      laid = front-laid (side c.args.exists) c.args.b.now c.requires.0.readable c.quantifier_for.ensures c.operator_for.ensures
          c.write_quantifiers-top.ensures c.write_row-at.ensures c.write_rows.ensures.laid;
      value = omega (arith, c.write_rows.ensures.value, c.write_row-at.ensures.next_row, top_is);
    }
