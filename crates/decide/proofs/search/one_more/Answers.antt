-- `decide::search::one_more` meets its contract. Assumes nothing.
use Rattle.std.proofs.Common.{ap, ◌∙◌}
use native.Mathlib.Numerals.{add-one}
use Rattle.decide.specs.Answers.{outcome_of}
use Rattle.decide.proofs.search.one_more.Goals as goal

pub returns : goal.returns
returns c = c.after_runs.ensures ∙ ap (λ n. record { outcome = outcome_of c.args.d.outcome; runs = n }) (add-one c.args.d.runs)
