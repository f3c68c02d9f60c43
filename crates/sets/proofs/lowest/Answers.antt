-- `sets::lowest` meets its contract.
use Rattle.std.proofs.Common.{refl, length, ◌+◌, rules}
use Rattle.sets.specs.Sets.{holds}
use Rattle.sets.proofs.Members.{holds_at, none-next, first_found}
use Rattle.sets.proofs.lowest.Goals as goal

pub returns-then-word-ne0 : goal.returns-then-word-ne0
returns-then-word-ne0 c =
    let l = c.loop-i in
    let set = c.args.set.now in
    first_found (holds set) (length set) l.i (holds_at set l.i) c.loop-i-test.true l.invariant (search rules) c.if-word-ne0.true

pub loop-i-preserved : goal.loop-i-preserved
loop-i-preserved c =
    let l = c.loop-i in
    let set = c.args.set.now in
    none-next (holds set) l.i (l.i + 1) (holds_at set l.i) refl l.invariant c.if-word-ne0.false
