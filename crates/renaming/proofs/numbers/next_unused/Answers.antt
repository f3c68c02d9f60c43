-- `renaming::numbers::next_unused` meets its contract.
use Rattle.std.proofs.Common.{◌≡◌, ◌+◌, sym, subst, ◌∙◌, arith}
use Rattle.renaming.proofs.Renumbering.{Passing, passing_next, passing_end}
use Rattle.renaming.proofs.numbers.next_unused.Goals as goal
use Rattle.renaming.proofs.numbers.next_unused.Goals.{else-loop-n-test, then-loop-n-test+else-not-holds+else-n-highest}

pub loop-n-preserved : goal.loop-n-preserved
loop-n-preserved c =
    let a = c.args in
    passing_next a.used.now a.highest (sym c.holds.ensures ∙ c.if-not-holds.false) (omega arith) (omega arith) c.loop-n.invariant

pub returns : goal.returns
returns c =
    let a = c.args in
    let l = c.loop-n in
    passing_end a.used.now a.highest (omega arith)
    (elim c.loop-n-test.branch [
      | else-loop-n-test w ↦
          let behind : l.n ≡ a.highest + 1 = omega (arith, w.loop-n-test.false, l.invariant.within) in
          subst (Passing a.used.now a.highest a.from) behind l.invariant
      | then-loop-n-test+else-not-holds+else-n-highest w ↦
          passing_next a.used.now a.highest (sym w.holds.ensures ∙ w.if-not-holds.false) (omega arith) (omega arith) l.invariant
    ])
