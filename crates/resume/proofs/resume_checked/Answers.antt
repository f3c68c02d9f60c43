-- `resume::resume_checked` meets its contract: the counts, the room, and the run with the counts added. Assumes nothing.
use Rattle.std.proofs.Common.{◌≡◌, ◌≤◌, ◌+◌, ◌∙◌, sym, true, arith}
use borrow.Author.Tests.{eqb-true}
use lib.Dec.{eqb}
use Rattle.resume.proofs.Counted.{addable}
use Rattle.resume.proofs.Answered.{uncounted, short, ran}
use Rattle.resume.proofs.resume_checked.Goals as goal
use Rattle.resume.proofs.resume_checked.Goals.{Else-not-adds_up}

pub returns-then-not-adds_up : goal.returns-then-not-adds_up
returns-then-not-adds_up c =
    let a = c.args in
    uncounted a.s a.c a.sheet.now a.first.now a.second.now (sym c.adds_up.ensures ∙ c.if-not-adds_up.true)

-- the counts add up
counted : (c : Else-not-adds_up) → eqb (c.args.c.settled + c.args.c.expanded + c.args.s.variables) c.args.c.started ≡ true
counted c = sym c.adds_up.ensures ∙ c.if-not-adds_up.false

pub returns-then-shorter-length : goal.returns-then-shorter-length
returns-then-shorter-length c =
    let a = c.args in
    short a.s a.c a.sheet.now a.first.now a.second.now (counted (goal.at.returns-then-shorter-length c).Else-not-adds_up)
    (omega (arith, c.shorter.ensures, c.sheet_length-length.ensures))

pub run_wide-requires : goal.run_wide-requires
run_wide-requires c = record { placed = c.requires; has_room = omega (arith, c.shorter.ensures, c.sheet_length-length.ensures) }

pub add_counts-requires : goal.add_counts-requires
add_counts-requires c =
    let a = c.args in
    addable a.first.now a.second.now c.requires c.run_wide.result a.c.started a.c.settled a.c.expanded c.run_wide.ensures
    (eqb-true _ _ (counted (goal.at.add_counts-requires c).Else-not-adds_up)) (omega (arith, c.well_formed))

pub returns : goal.returns
returns c =
    let a = c.args in
    ran a.s a.c a.sheet.now a.first.now a.second.now (counted (goal.at.returns c).Else-not-adds_up) _ _
    (omega (arith, c.shorter.ensures, c.sheet_length-length.ensures)) c.run_wide.ensures c.add_counts.ensures
