-- `reduce::clauses::last_existential` meets its contract.
use Rattle.std.proofs.Common.{◌∙◌, arith}
use Rattle.reduce.proofs.ClauseTurns.{last_none, last_row, last-all, later}
use Rattle.reduce.proofs.clauses.last_existential.Goals as goal

pub loop-r-init : goal.loop-r-init
loop-r-init c = last_none c.args.b.now c.requires.0.numbered.readable.room c.requires.1

pub behind_at-requires : goal.behind_at-requires
behind_at-requires c = (c.requires.0, c.requires.1.are_bound c.loop-r.r c.loop-r.invariant.start c.loop-r-test.true)

pub loop-r-preserved : goal.loop-r-preserved
loop-r-preserved c =
    last_row c.args.b.now c.requires.0.numbered.readable.room c.requires.1 (omega arith) c.loop-r-test.true c.loop-r.invariant c.behind_at.ensures
    (c.max-last.ensures ∙ later _ _)

pub returns : goal.returns
returns c = last-all c.args.b.now c.requires.0.numbered.readable.room c.requires.1 c.loop-r-test.false c.loop-r.invariant
