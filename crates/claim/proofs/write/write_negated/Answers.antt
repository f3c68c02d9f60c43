-- `claim::write::write_negated` meets its contract: a row a turn.
use Rattle.std.proofs.Common.{ap, ◌∙◌, arith}
use Rattle.reduce.specs.Inner.Places.{row_of}
use Rattle.claim.specs.Inner.Writing.{negated_kind}
use Rattle.claim.proofs.Turns.{negating_none, row-place, negating-on, negating-all, negated_as, fits-row, room_on}
use Rattle.claim.proofs.write.write_negated.Goals as goal

pub loop-r-init : goal.loop-r-init
loop-r-init c =
    let a = c.args in
    negating_none a.b.now c.requires.0.readable.room a.to.layout a.out.now a.to.at a.span.from a.span.to c.requires.2.inside c.requires.2.ordered

pub write_row-at-requires : goal.write_row-at-requires
write_row-at-requires c =
    let a = c.args in (
      room_on c.requires.1.room c.loop-r.invariant.same_length,
      omega (
        arith,
        row-place a.b.now c.requires.0.readable.room a.to.layout a.out.now a.to.at a.span.from a.span.to c.requires.2.inside c.loop-r.invariant,
        c.loop-r-test.true,
        c.loop-r.invariant.begun,
        c.requires.3,
      ),
      fits-row a.to.layout a.b.now c.requires.0 c.requires.1.same_format c.loop-r.r (omega (arith, c.loop-r-test.true, c.requires.2.inside))
          c.argument_at.ensures.0,
    )

pub loop-r-preserved : goal.loop-r-preserved
loop-r-preserved c =
    let a = c.args in
    negating-on a.b.now c.requires.0.readable.room a.to.layout a.out.now a.to.at a.span.from a.span.to c.requires.2.inside c.loop-r.invariant
    c.loop-r-test.true (omega arith)
    (negated_as (row_of a.s a.b.now c.loop-r.r) (c.negated_kind-kind.ensures ∙ ap negated_kind c.kind_at.ensures) c.argument_at.ensures.0)
    c.write_row-at.ensures c.write_row-at.auto.out

pub returns : goal.returns
returns c =
    let a = c.args in
    negating-all a.b.now c.requires.0.readable.room a.to.layout a.out.now a.to.at a.span.from a.span.to c.requires.2.inside c.loop-r.invariant
    c.loop-r-test.false
