-- `guards::selection::write_kept` meets its contract: a child a turn.
use Rattle.std.proofs.Common.{◌+◌, get_or, ap, ◌∙◌, subst₂}
use Rattle.rows.specs.Layouts.{rows_in}
use Rattle.substitution.specs.Output.{Laid}
use Rattle.substitution.proofs.Splice.{ready_on}
use lib.Seq.{slice}
use Rattle.guards.proofs.Copying.{all_written, child-within, child-room, next-written}
use Rattle.guards.proofs.selection.write_kept.Goals as goal

pub write_rows-at-requires : goal.write_rows-at-requires
write_rows-at-requires c =
    let h = c.requires in
    let w = c.loop-start.invariant in
    rw (c.from.ensures, c.from-row.ensures)
    (ready_on h.ready w.same_length, child-within h.readable h.room c.loop-start-test.true w, child-room h.readable h.room c.loop-start-test.true w)

pub loop-start-preserved : goal.loop-start-preserved
loop-start-preserved c =
    let a = c.args in
    let h = c.requires in
    let l = c.loop-start in
    let wrote = c.write_rows-at in
    next-written h.readable h.room c.loop-start-test.true l.invariant
    (subst₂ (λ from to. Laid a.to.layout l.out wrote.new.out l.at wrote.result (slice (a.s.variables + from) (a.s.variables + to) (rows_in a.s a.b.now)))
    c.from-row.ensures (c.from.ensures ∙ ap (λ r. get_or a.ends.now r 0) c.from-row.ensures) wrote.ensures.laid)
    wrote.auto.out

pub returns : goal.returns
returns c = all_written c.requires.readable c.loop-start-test.false c.loop-start.invariant
