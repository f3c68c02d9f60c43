-- The loop of `guards::selection::write_kept`: the children before the one at hand are written.
use Rattle.guards.proofs.Copying.{Written}
use Rattle.guards.proofs.selection.write_kept.Given as goal

abbrev pub invariant-loop-start : goal.invariant-loop-start
invariant-loop-start l = Written l.s l.b l.ends l.kept l.to.layout l.fn.out l.to.at l.out l.at l.start-index
