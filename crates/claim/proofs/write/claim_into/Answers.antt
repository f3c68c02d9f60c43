-- `claim::write::claim_into` meets its contract.
use mathlib.Core.Path.{◌≡◌, refl, ◌∙◌}
use Prim.Native.Nat.{◌+◌, ◌*◌, ◌-◌}
use native.Mathlib.Omega.{arith}
use lib.ListN.{length}
use Rattle.sheet.specs.Sheet.{operator_kind}
use Rattle.formula.specs.Tree.{dual}
use Rattle.rows.specs.declared.Layout.{Layout}
use Rattle.rows.proofs.Limits.{number_fits}
use Rattle.pair_tests.specs.Pairs.{side}
use Rattle.pair_tests.proofs.Stands.{counted}
use Rattle.claim.proofs.Turns.{room_on}
use Rattle.claim.proofs.Claims.{operator_of_other, root-children, claim-room, front-room, pairs-room, claim-sealed, claim-length}
use Rattle.claim.proofs.write.claim_into.Goals as goal

pub overflow_sub-cuts : goal.overflow_sub-cuts
overflow_sub-cuts c = omega (arith, counted c.args.d.now c.requires.paired)

pub write_front-front-requires : goal.write_front-front-requires
write_front-front-requires c =
    let layout : Layout =
    record { format = c.args.s.format; variables = c.args.s.variables; nodes = c.args.s.nodes + 2 * c.args.strategy.layout.nodes - 1 } in
    let p = c.requires in (
      p.first,
      record { source = p.first.readable.room; room = claim-room p layout refl refl refl; same_format = refl },
      front-room p layout refl refl refl,
      number_fits c.args.s.format (omega (arith, (root-children p refl).1)),
    )

pub write_pairs-requires : goal.write_pairs-requires
write_pairs-requires c =
    let layout : Layout =
    record { format = c.args.s.format; variables = c.args.s.variables; nodes = c.args.s.nodes + 2 * c.args.strategy.layout.nodes - 1 } in
    let kind_is : c.operator_for.result ≡ operator_kind (dual (side c.args.strategy.exists)) =
    c.operator_for.ensures ∙ operator_of_other c.args.strategy.exists in
    let p = c.requires in (
      p.second,
      p.paired,
      record {
        source = p.second.readable.room;
        room = room_on (claim-room p layout refl refl refl) c.write_front-front.auto.out;
        same_format = p.same_format;
      },
      omega (arith, pairs-room p layout refl refl refl kind_is c.write_front-front.ensures.value),
    )

pub seal-requires : goal.seal-requires
seal-requires c =
    let layout : Layout =
    record { format = c.args.s.format; variables = c.args.s.variables; nodes = c.args.s.nodes + 2 * c.args.strategy.layout.nodes - 1 } in
    let long : length c.write_pairs.new.out ≡ length c.args.out.now =
    c.write_pairs.auto.out ∙ c.write_front-front.auto.out in
    let p = c.requires in
    (room_on (claim-room p layout refl refl refl) long, omega arith, omega arith)

pub returns : goal.returns
returns c =
    let layout : Layout =
    record { format = c.args.s.format; variables = c.args.s.variables; nodes = c.args.s.nodes + 2 * c.args.strategy.layout.nodes - 1 } in
    let kind_is : c.operator_for.result ≡ operator_kind (dual (side c.args.strategy.exists)) =
    c.operator_for.ensures ∙ operator_of_other c.args.strategy.exists in
    let long : length c.write_pairs.new.out ≡ length c.args.out.now =
    c.write_pairs.auto.out ∙ c.write_front-front.auto.out in
    let p = c.requires in
    record {
      out_after = c.seal.ensures.b_after ∙
          claim-sealed p layout refl refl refl (root-children p refl).0 kind_is c.write_front-front.ensures.laid
          c.write_pairs.ensures c.write_front-front.ensures.value
          long refl;
      value = c.seal.ensures.value ∙
          claim-length p layout refl refl refl (root-children p refl).0 kind_is c.write_front-front.ensures.laid
          c.write_pairs.ensures c.write_front-front.ensures.value
          long refl;
    }
