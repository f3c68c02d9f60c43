-- `tidying::operator::combine` meets its contract.
use Rattle.std.proofs.Common.{refl, arith}
use Rattle.tidying.proofs.InPlace.{in_place_as}
use Rattle.tidying.proofs.Combine.{gathers_decided, gathers_left, ready_literal_at, ready_children, ready-within, ready-decided, ready-left, ready-undecided}
use Rattle.tidying.proofs.operator.combine.Goals as goal

pub returns-then-kind-le-NEGATIVE : goal.returns-then-kind-le-NEGATIVE
returns-then-kind-le-NEGATIVE c = ready_literal_at c.kind_at-kind.ensures c.if-kind-le-NEGATIVE.true

pub gather-requires : goal.gather-requires
gather-requires c =
    record {
      room = c.requires.0.room;
      counted = c.requires.0.counted;
      tables = c.requires.1;
      known_fit = c.requires.0.known_fit;
      there = ready_children c.kind_at-kind.ensures c.argument_at.ensures.0 c.if-kind-le-NEGATIVE.false c.requires.2.ready;
    }

pub hollow-requires : goal.hollow-requires
hollow-requires c =
    let w =
    ready-within c.kind_at-kind.ensures c.argument_at.ensures.0 c.if-kind-le-NEGATIVE.false c.requires.2.ready
    (gathers_decided c.gather.ensures.gathers_in c.in-Decided.is) in
    (in_place_as c.gather.auto.b refl c.requires.0, w.0, w.1)

pub conclude-requires : goal.conclude-requires
conclude-requires c =
    let k = c.kind_at-kind.ensures in
    let n = c.argument_at.ensures.0 in
    let e = c.in-Left.is in
    let f = gathers_left c.gather.ensures.gathers_in e in
    let left = c.gather.ensures.leaves_in in
    let t = c.requires.1 in
    record {
      in_place = in_place_as c.gather.auto.b refl c.requires.0;
      within = (ready-within k n c.if-kind-le-NEGATIVE.false c.requires.2.ready f).1;
      there =
          ready-left k n c.if-kind-le-NEGATIVE.false c.requires.2.ready f refl
          (omega (arith, left.few _ _ _ e, t.members_fit, c.gather.auto.members))
          (omega (arith, left.few _ _ _ e, t.countable));
      hashed = (left.hashed _ _ _ e).0;
      hash_few = (left.hashed _ _ _ e).1;
    }

pub returns-in-Decided : goal.returns-in-Decided
returns-in-Decided c =
    λ before x bs ts r.
    ready-decided c.kind_at-kind.ensures c.argument_at.ensures.0 c.if-kind-le-NEGATIVE.false r (gathers_decided c.gather.ensures.gathers_in c.in-Decided.is) refl
    c.hollow.ensures.hollows c.hollow.ensures.kept_behind

pub returns-in-Left : goal.returns-in-Left
returns-in-Left c =
    λ before x bs ts r.
    ready-undecided c.kind_at-kind.ensures c.argument_at.ensures.0 c.if-kind-le-NEGATIVE.false r (gathers_left c.gather.ensures.gathers_in c.in-Left.is) refl
    c.conclude.ensures.concludes_in c.conclude.ensures.kept_behind
