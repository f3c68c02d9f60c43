-- `outer::chain::with_row` meets its contract.
use mathlib.Core.Path.{refl}
use borrow.Author.Tests.{eq-eqb, ne_eqb}
use Rattle.outer.specs.Inner.Chain.{with_row}
use Rattle.outer.proofs.chain.with_row.Goals as goal

pub returns-then-not-chosen : goal.returns-then-not-chosen
unfolding with_row
returns-then-not-chosen c = rw (c.if-not-chosen.true) refl

pub returns-then-r-none : goal.returns-then-r-none
unfolding with_row
returns-then-r-none c =
    let a = c.args in
    rw (c.if-not-chosen.false, eq-eqb a.r.last a.none c.if-r-none.true) refl

pub returns : goal.returns
unfolding with_row
returns c =
    let a = c.args in
    rw (c.if-not-chosen.false, ne_eqb a.r.last a.none c.if-r-none.false) refl
