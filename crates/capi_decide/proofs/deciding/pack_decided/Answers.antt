-- `capi_decide::deciding::pack_decided` packs an answer of Decide.
-- Assumes nothing.
use Rattle.std.proofs.Common.{sym, ap, ◌∙◌}
use Rattle.sheet.specs.Decide.{decide_answer}
use Rattle.decide.specs.Answers.{outcome_of, answer_of}
use Rattle.decide.specs.declared.search.Outcome.{Outcome}
use Rattle.packing.specs.Packed.{packed}
use Rattle.capi_decide.specs.Packed.{packed_decided}
use Rattle.capi_decide.proofs.deciding.pack_decided.Goals as goal

pub returns-in-Decided : goal.returns-in-Decided
unfolding packed_decided decide_answer
returns-in-Decided c =
    let runs = c.in-Ok.d.runs in
    c.pack.ensures ∙ ap (λ w. packed 0 w 0 runs) c.word_for.ensures ∙
    ap (λ (o : Outcome). packed_decided (decide_answer (outcome_of o) runs)) (sym c.in-Decided.is) ∙ ap (λ a. packed_decided (answer_of a)) (sym c.in-Ok.is)

pub returns-in-NoPlace : goal.returns-in-NoPlace
unfolding packed_decided decide_answer
returns-in-NoPlace c =
    c.pack-in-NoPlace.ensures ∙
    ap (λ (o : Outcome). packed_decided (decide_answer (outcome_of o) c.in-Ok.d.runs)) (sym c.in-NoPlace.is) ∙ ap (λ a. packed_decided (answer_of a)) (sym c.in-Ok.is)

pub returns-in-Spent : goal.returns-in-Spent
unfolding packed_decided decide_answer
returns-in-Spent c =
    c.pack-in-Spent.ensures ∙
    ap (λ (o : Outcome). packed_decided (decide_answer (outcome_of o) c.in-Ok.d.runs)) (sym c.in-Spent.is) ∙ ap (λ a. packed_decided (answer_of a)) (sym c.in-Ok.is)
