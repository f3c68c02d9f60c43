-- `sort_compare::compare::compare_checked` meets its contract.
use Rattle.sort_compare.proofs.Compares.{short_first, short-second, both-fit}
use Rattle.sort_compare.proofs.compare.compare_checked.Goals as goal

pub returns-then-first-a : goal.returns-then-first-a
returns-then-first-a c =
    let a = c.args in
    short_first a.s a.t a.a.now a.b.now a.first.now a.second.now c.if-first-a.true

pub returns-then-second-b : goal.returns-then-second-b
returns-then-second-b c =
    let a = c.args in
    short-second a.s a.t a.a.now a.b.now a.first.now a.second.now c.if-first-a.false c.if-second-b.true

pub returns : goal.returns
returns c =
    let a = c.args in
    both-fit a.s a.t a.a.now a.b.now a.first.now a.second.now c.if-first-a.false c.if-second-b.false c.compare_sheets.ensures
