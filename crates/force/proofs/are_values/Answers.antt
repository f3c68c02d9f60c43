-- `force::are_values` meets its contract: every byte is at most 1.
use Rattle.std.proofs.Common.{◌∙◌, leb, rules, tests}
use Rattle.std.proofs.lemmas.Iterator.{YieldsList-from_slice}
use Rattle.std.proofs.lemmas.Iterator.Search.{all_from_yields_List}
use Rattle.force.proofs.Values.{values_all}
use Rattle.force.proofs.are_values.Goals as goal

pub returns : goal.returns
returns c =
    all_from_yields_List (λ v. leb v 1) _ _ _ c.all.ensures.ran (YieldsList-from_slice c.args.values.now cc) (λ x b q k. search (rules, tests)) ∙
    values_all c.args.values.now
