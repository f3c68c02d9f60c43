-- `sets::lowest_left` meets its contract.
use Rattle.std.proofs.Common.{refl, length, ◌+◌, rules}
use Rattle.sets.specs.Sets.{left_in}
use Rattle.sets.proofs.Members.{tells_left, none-next, first_found}
use Rattle.sets.proofs.lowest_left.Goals as goal

pub returns-then-left-ne0 : goal.returns-then-left-ne0
returns-then-left-ne0 c =
    let l = c.loop-i in
    let a = c.args in
    first_found (left_in a.first.now a.second.now a.taken.now) (length a.first.now) l.i
    (tells_left a.first.now a.second.now a.taken.now l.i (search rules)) c.loop-i-test.true l.invariant (search rules) c.if-left-ne0.true

pub loop-i-preserved : goal.loop-i-preserved
loop-i-preserved c =
    let l = c.loop-i in
    let a = c.args in
    none-next (left_in a.first.now a.second.now a.taken.now) l.i (l.i + 1)
    (tells_left a.first.now a.second.now a.taken.now l.i (search rules)) refl l.invariant c.if-left-ne0.false
