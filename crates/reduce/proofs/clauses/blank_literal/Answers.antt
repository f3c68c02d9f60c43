-- `reduce::clauses::blank_literal` meets its contract. Assumes nothing.
use Rattle.rows.specs.Layouts.{rows_in}
use Rattle.rows.specs.Formulas.{prefix_in}
use Rattle.reduce.proofs.ClauseTurns.{literal-goes, literal-stays}
use Rattle.reduce.proofs.clauses.blank_literal.Goals as goal

pub returns-then-goes_at : goal.returns-then-goes_at
returns-then-goes_at c =
    literal-goes (prefix_in c.args.s c.args.b.now) c.args.last c.args.r (rows_in c.args.s c.args.out.now)
    (rows_in c.args.s c.args.b.now) c.goes_at.ensures c.if-goes_at.true c.set_row.ensures.b_after

pub returns-else-goes_at : goal.returns-else-goes_at
returns-else-goes_at c =
    literal-stays (prefix_in c.args.s c.args.b.now) c.args.last c.args.r (rows_in c.args.s c.args.out.now)
    (rows_in c.args.s c.args.b.now) c.goes_at.ensures c.if-goes_at.false c.requires.2.same
