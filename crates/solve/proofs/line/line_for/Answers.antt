-- `solve::line::line_for` meets its contract: a line for each kind of answer.
use Rattle.std.proofs.Common.{◌≡◌, sym, ap, ◌∙◌, Ok, rules}
use Rattle.sheet.specs.Operations.{Word, is_refused, line, line_of}
use Rattle.rows.specs.Refusals.{place_of}
use Rattle.solve.specs.declared.Solved.TheVariants.{Stopped, Ended}
use Rattle.solve.specs.Answers.{solve_answer}
use Rattle.solve.proofs.line.line_for.Goals as goal

pub returns-in-Err : goal.returns-in-Err
returns-in-Err c =
    let i = place_of c.in-Err.refusal in
    rw c.in-Err.is (c.refused_line.ensures i ∙ ap (λ n. line_of (is_refused n i)) c.number.ensures.0)

pub returns-in-Ok-Stopped : goal.returns-in-Ok-Stopped
unfolding line_of
returns-in-Ok-Stopped c =
    let k = c.in-Ok-Stopped in
    let e : c.args.answer ≡ Ok (Stopped k.x k.settled k.expanded) = search rules in
    ap (λ a. line_of (solve_answer a)) (sym e)

pub returns-in-Ok-Ended : goal.returns-in-Ok-Ended
unfolding line_of
returns-in-Ok-Ended c =
    let k = c.in-Ok-Ended in
    let e : c.args.answer ≡ Ok (Ended k.verdict k.settled k.expanded) = search rules in
    ap (λ (w : Word). line w k.settled k.expanded 0) c.word_for.ensures ∙ ap (λ a. line_of (solve_answer a)) (sym e)
