-- `guards::after_run` meets its contract: the initial run's own answer, or what the sifting keeps.
use Rattle.std.proofs.Common.{◌≡◌, refl, sym, ap, ◌∙◌, rules}
use Rattle.sheet.specs.Trace.{room}
use Rattle.solve.specs.Answers.{solved_answer}
use Rattle.solve.specs.declared.Verdict.TheVariants.{True, False}
use Rattle.solve.specs.declared.Solved.TheVariants.{Ended}
use Rattle.solve.proofs.Answering.{all_zeros}
use Rattle.guards.specs.Inner.Sieves.{telling}
use Rattle.guards.proofs.Deciding.{stopped_told, true_told, false_sifts}
use Rattle.guards.proofs.after_run.Goals as goal

pub returns-in-Stopped : goal.returns-in-Stopped
returns-in-Stopped c =
    let a = c.args in
    let k = c.in-Stopped in
    stopped_told a.s a.sheet.now (room a.first.now a.second.now) k.x k.settled k.expanded a.out.now
    (sym (ap solved_answer k.is) ∙ c.requires.2) (c.clear.ensures ∙ all_zeros a.out.now refl)

pub returns-in-Ended-True-default-default : goal.returns-in-Ended-True-default-default
returns-in-Ended-True-default-default c =
    let a = c.args in
    let k = c.in-Ended-True-default-default in
    let e : a.answer ≡ Ended True k.settled k.expanded = search rules in
    true_told a.s a.sheet.now (room a.first.now a.second.now) k.settled k.expanded a.out.now (sym (ap solved_answer e) ∙ c.requires.2)
    (c.clear-in-Ended-True-default-default.ensures ∙ all_zeros a.out.now refl)

pub returns-in-Ended-False-default-default : goal.returns-in-Ended-False-default-default
returns-in-Ended-False-default-default c =
    let a = c.args in
    let k = c.in-Ended-False-default-default in
    let e : a.answer ≡ Ended False k.field-1 k.field-2 = search rules in
    c.keep.ensures ∙
    ap (telling a.s a.out.now)
    (false_sifts a.s a.sheet.now (room a.first.now a.second.now) k.field-1 k.field-2 (sym (ap solved_answer e) ∙ c.requires.2))
