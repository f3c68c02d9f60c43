-- `reduce::clauses::blank_literals` meets its contract.
use Rattle.std.proofs.Common.{arith}
use Rattle.reduce.proofs.ClauseTurns.{blank_none, new-room, blank-literal-on, blank_all-literals}
use Rattle.reduce.proofs.clauses.blank_literals.Goals as goal

pub loop-r-init : goal.loop-r-init
loop-r-init c =
    blank_none c.args.b.now c.args.out.now c.requires.0.numbered.readable.room c.requires.2.room c.requires.1 c.requires.2.same
    c.last_existential-last.ensures

pub blank_literal-requires : goal.blank_literal-requires
blank_literal-requires c =
    let l = c.loop-r.invariant in (
      c.requires.0,
      c.requires.1.are_bound c.loop-r.r l.start c.loop-r-test.true,
      record {
        room = new-room c.args.b.now c.args.out.now c.requires.0.numbered.readable.room c.requires.2.room c.requires.1 c.requires.2.same
            c.loop-r-test.true l;
        same = l.standing.left;
      },
    )

pub loop-r-preserved : goal.loop-r-preserved
loop-r-preserved c =
    blank-literal-on c.args.b.now c.args.out.now c.requires.0.numbered.readable.room c.requires.2.room c.requires.1 c.requires.2.same
    c.loop-r-test.true c.loop-r.invariant (omega arith) c.blank_literal.ensures c.blank_literal.auto.out

pub returns : goal.returns
returns c =
    blank_all-literals c.args.b.now c.args.out.now c.requires.0.numbered.readable.room c.requires.2.room c.requires.1 c.requires.2.same
    c.loop-r-test.false c.loop-r.invariant
