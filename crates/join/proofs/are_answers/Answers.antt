-- The goal of `join::are_answers`. Assumes nothing.
use Rattle.std.proofs.Common.{◌∙◌, leb, rules, tests}
use Rattle.std.proofs.lemmas.Iterator.{YieldsList-from_slice}
use Rattle.std.proofs.lemmas.Iterator.Search.{all_from_yields_List}
use Rattle.join.proofs.Joining.{answers_all}
use Rattle.join.proofs.are_answers.Goals as goal

pub returns : goal.returns
returns c =
    all_from_yields_List (λ a. leb a 2) _ _ _ c.all.ensures.ran (YieldsList-from_slice c.args.answers.now cc) (λ x b q k. search (rules, tests)) ∙
    answers_all c.args.answers.now
